-- What the numbers of the three calls say: which is tested first, and what is so where they are 0. Assumes nothing.
use mathlib.Core.Path.{◌≡◌, refl}
use mathlib.Core.Bool.{Bool, true, false, cond, ◌&&◌, and-eq-true_iff, and-false}
use mathlib.Core.List.{List}
use Prim.Native.Nat.{ℕ, zero, suc, ◌+◌, ◌-◌, ◌*◌, ◌/◌, ◌≤◌, ◌<◌}
use native.Mathlib.Nat.{mul-div-le}
use native.Mathlib.Omega.{arith}
use lib.Dec.{eqb, ltb, leb}
use lib.ListN.{length}
use borrow.Author.Tests.{eqb-true, leb-true, ltb-true, ne_eqb}
use Rattle.seek_index.specs.Record.{rest_length, version_in, rest_in, every_in}
use Rattle.seek_index.specs.Call.{are_run, is_every, index_length, index_refusal, is_index, place_refusal, from_refusal}
use Rattle.seek_index.proofs.Kept.{kept_at}

-- The run's bytes are tested first: whatever else is given, they are refused by 3.
pub bytes-first : (bytes : ℕ) → are_run bytes ≡ false
    → ((k size : ℕ) → index_refusal bytes k size ≡ 3)
    × ((index : List ℕ) (j : ℕ) → place_refusal bytes index j ≡ 3)
    × ((index : List ℕ) (j samples : ℕ) → from_refusal bytes index j samples ≡ 3)
bytes-first bytes t = (λ k size. rw t refl, λ index j. rw t refl, λ index j samples. rw t refl)

-- both tests passed
tested : {x y : ℕ} (a b : Bool) → 1 ≤ x → 1 ≤ y → cond a (cond b 0 x) y ≡ 0 → (a ≡ true) × (b ≡ true)
tested true true h l t = (refl, refl)
tested true false h l t = absurd (omega (arith, t, h))
tested false b h l t = absurd (omega (arith, t, l))

pub run-are : (bytes : ℕ) → are_run bytes ≡ true → (bytes / 34 ≤ 1024) × (bytes ≡ 34 * (bytes / 34))
run-are bytes t =
    let (few, are) = (and-eq-true_iff (leb (bytes / 34) 1024) (eqb bytes (34 * (bytes / 34)))).0 t in
    (leb-true (bytes / 34) 1024 few, eqb-true bytes (34 * (bytes / 34)) are)

pub every-is : (k : ℕ) → is_every k ≡ true → (1 ≤ k) × (k ≤ 64)
every-is k t = let (some, few) = (and-eq-true_iff (leb 1 k) (leb k 64)).0 t in (leb-true 1 k some, leb-true k 64 few)

pub index-taken : (bytes k size : ℕ) → index_refusal bytes k size ≡ 0 → let n = bytes / 34 in (n ≤ 1024) × (bytes ≡ 34 * n) × (1 ≤ k) × (k ≤ 64) × (size ≡ index_length k n)
index-taken bytes k size t =
    let n = bytes / 34 in
    let is = eqb size (index_length k n) in
    let (run, fits) = tested (are_run bytes) (is_every k && is) (omega arith) (omega arith) t in
    let (every, sized) = (and-eq-true_iff (is_every k) is).0 fits in
    let (few, whole) = run-are bytes run in
    let (some, most) = every-is k every in
    (few, whole, some, most, eqb-true size (index_length k n) sized)

pub index_is : (n : ℕ) (index : List ℕ) → is_index n index ≡ true → let k = every_in index in (1 ≤ k) × (k ≤ 64) × (length index ≡ index_length k n)
index_is n index t =
    let k = every_in index in
    let version = eqb (version_in index) 1 in
    let sized = eqb (length index) (index_length k n) in
    let (three, rest) = (and-eq-true_iff (version && is_every k && sized) (eqb (rest_in index) (rest_length k n))).0 t in
    let (two, l) = (and-eq-true_iff (version && is_every k) sized).0 three in
    let (some, most) = every-is k ((and-eq-true_iff version (is_every k)).0 two).1 in
    (some, most, eqb-true (length index) (index_length k n) l)

-- a record below four bytes
pub no_index : (n : ℕ) (index : List ℕ) → length index < 4 → is_index n index ≡ false
no_index n index h =
    let k = every_in index in
    let two = eqb (version_in index) 1 && is_every k in
    rw (ne_eqb (length index) (index_length k n) (λ e. omega (arith, h, e)), and-false two) refl

-- an index that is used at block j
abbrev pub Placed : ℕ → List ℕ → ℕ → Type 0
Placed bytes index j =
    let n = bytes / 34 in
    let k = every_in index in
    (n ≤ 1024) × (bytes ≡ 34 * n) × (1 ≤ k) × (k ≤ 64) × (length index ≡ index_length k n) × (j < n)

pub place-taken : (bytes : ℕ) (index : List ℕ) (j : ℕ) → place_refusal bytes index j ≡ 0 → Placed bytes index j
place-taken bytes index j t =
    let n = bytes / 34 in
    let (run, fits) = tested (are_run bytes) (is_index n index && ltb j n) (omega arith) (omega arith) t in
    let (is, before) = (and-eq-true_iff (is_index n index) (ltb j n)).0 fits in
    let (few, whole) = run-are bytes run in
    let (some, most, sized) = index_is n index is in
    (few, whole, some, most, sized, ltb-true j n before)

-- the kept state stands at or before the block, and is there
pub place_kept : (bytes : ℕ) (index : List ℕ) (j : ℕ) → Placed bytes index j → let k = every_in index in (k * (j / k) ≤ j) × (7 + 3 * (j / k) ≤ length index)
place_kept bytes index j (_, _, some, _, long, h) = let k = every_in index in (mul-div-le j k, omega (arith, long, kept_at k some (bytes / 34) j h))

-- the number of a call that is not done for its samples alone
pub from-taken : (bytes : ℕ) (index : List ℕ) (j samples : ℕ) → place_refusal bytes index j ≡ 0 → from_refusal bytes index j samples ≡ cond (eqb samples (64 * (bytes / 34 - j))) 0 3
from-taken bytes index j samples t = rw t refl

pub from-refused : (bytes : ℕ) (index : List ℕ) (j samples : ℕ) → (place_refusal bytes index j ≡ 0 → ⊥) → from_refusal bytes index j samples ≡ place_refusal bytes index j
from-refused bytes index j samples refused = rw (ne_eqb (place_refusal bytes index j) 0 refused) refl

-- the place is taken, and so are the samples
chosen : (number : ℕ) (is : Bool) → ◌≡◌ {A = ℕ} (cond (eqb number 0) (cond is 0 3) number) 0 → (number ≡ 0) × (is ≡ true)
chosen zero true t = (refl, refl)
chosen zero false t = absurd (omega (arith, t))
chosen (suc number) is t = let more : ◌≡◌ {A = ℕ} (suc number) 0 = rw (ne_eqb (suc number) 0 (λ e. omega (arith, e))) at t in absurd (omega (arith, more))

pub from-done : (bytes : ℕ) (index : List ℕ) (j samples : ℕ) → from_refusal bytes index j samples ≡ 0 → (place_refusal bytes index j ≡ 0) × (samples ≡ 64 * (bytes / 34 - j))
from-done bytes index j samples t =
    let wanted = 64 * (bytes / 34 - j) in
    let (place, fits) = chosen (place_refusal bytes index j) (eqb samples wanted) t in
    (place, eqb-true samples wanted fits)
