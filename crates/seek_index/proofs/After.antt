-- The states after block j, found from the one at or before it, are those that a rebuilt index has there; and there is room for them. Assumes nothing.
use mathlib.Core.Path.{◌≡◌, refl, sym, ap, ap₂, ◌∙◌}
use mathlib.Core.List.{List}
use Prim.Native.Nat.{ℕ, suc, ◌+◌, ◌-◌, ◌*◌, ◌/◌, ◌≤◌, ◌<◌, min}
use native.Mathlib.Omega.{arith}
use native.Mathlib.Nat.{div-eq_of_lt, mul-div-le}
use lib.Dec.{leb}
use lib.ListN.{length, take, drop, length-drop}
use lib.Seq.{take_all, drop-drop}
use borrow.Author.Tests.{leb-true, leb-false}
use borrow.Table.Steps.{cases}
use Rattle.num.specs.Lists.{from}
use Rattle.num.proofs.Lists.{length_from, alike}
use Rattle.ima_nibble.specs.Step.{State}
use Rattle.seek_index.specs.Call.{index_length}
use Rattle.seek_index.specs.Private.{Room}
use Rattle.seek_index.specs.Record.{state_before, states_kept, kept_state, kept_states}
use Rattle.seek_index.proofs.Before.{onward}
use Rattle.seek_index.proofs.Bytes.{lent-behind}
use Rattle.seek_index.proofs.Kept.{kept-rest, none_kept}
use Rattle.seek_index.proofs.Listed.{shifted}
use Rattle.seek_index.proofs.Turn.{by_part}

-- The states behind the first: those of the blocks behind the first k, from the state there,
module _ (k : ℕ) (some : 1 ≤ k) (own : State) (bytes : List ℕ) where
  one_later : (e : ℕ) → state_before (state_before own bytes k) (drop (34 * k) bytes) (k * e) ≡ kept_state k own bytes (1 + e)
  one_later e =
      let next : k * (1 + e) ≡ k + k * e = omega arith in
      let left : k * (1 + e) - k ≡ k * e = omega (arith, next) in
      ap (state_before (state_before own bytes k) (drop (34 * k) bytes)) (sym left) ∙ onward own bytes k (k * (1 + e)) (omega (arith, next))

  behind-k : (n : ℕ) → k ≤ n → kept_states k (n - k) (state_before own bytes k) (drop (34 * k) bytes) ≡ from (states_kept k n - 1) 1 (kept_state k own bytes)
  behind-k n le =
      let one : k * 1 ≡ k = omega arith in
      let m = states_kept k (n - k) in
      let count : m ≡ states_kept k n - 1 = ap (λ (x : ℕ). states_kept k (n - x)) (sym one) ∙ kept-rest k some n 1 (omega (arith, one, le)) in
      alike (kept_state k (state_before own bytes k) (drop (34 * k) bytes)) (λ e. kept_state k own bytes (1 + e)) m 0 (λ e _ _. one_later e)
      ∙ shifted (kept_state k own bytes) 1 m 0
      ∙ ap (λ (x : ℕ). from x 1 (kept_state k own bytes)) count

  -- and none where the run ends before.
  behind-all : (n : ℕ) (st : State) (rest : List ℕ) → n < k → kept_states k 0 st rest ≡ from (states_kept k n - 1) 1 (kept_state k own bytes)
  unfolding from
  behind-all n st rest lt =
      let zeros : states_kept k 0 ≡ 0 = div-eq_of_lt (omega arith) in
      let few : states_kept k n - 1 ≡ 0 = omega (arith, none_kept k some n 1 (omega (arith, lt))) in
      rw (zeros, few) refl

  later : (n b : ℕ) → b ≡ min k n → kept_states k (n - b) (state_before own bytes b) (drop (34 * b) bytes) ≡ from (states_kept k n - 1) 1 (kept_state k own bytes)
  later n b b-is =
      let at : ℕ → ℕ → List State = λ m x. kept_states k m (state_before own bytes x) (drop (34 * x) bytes) in
      cases (leb k n)
      (λ t. let le = leb-true k n t in ap (λ (x : ℕ). at (n - x) x) (omega (arith, b-is, le)) ∙ behind-k n le)
      (λ t. let lt = leb-false k n t in ap (λ (m : ℕ). at m b) (omega (arith, b-is, lt)) ∙ behind-all n (state_before own bytes b) (drop (34 * b) bytes) lt)

-- what is left behind b blocks of n
blocks-behind : (bytes : List ℕ) (n b : ℕ) → length bytes ≡ 34 * n → length (drop (34 * b) bytes) ≡ 34 * (n - b)
blocks-behind bytes n b l = length-drop (34 * b) bytes ∙ omega arith

blocks-left : (bytes : List ℕ) (n b : ℕ) → length bytes ≡ 34 * n → length (drop (34 * b) bytes) / 34 ≡ n - b
blocks-left bytes n b l = omega (arith, blocks-behind bytes n b l)

-- The states after block j, from the j/k-th: the bytes up to the next one that is kept are lent from `start` to `next`, and then the rest.
pub states-after : (k : ℕ) → 1 ≤ k → (n : ℕ) (own : State) (bytes : List ℕ) (j next : ℕ) → length bytes ≡ 34 * n → j < n
    → let i = j / k in
    let start = 34 * (k * i) in
    let part = take (next - start) (drop start bytes) in
    let rest = take (length bytes - next) (drop next bytes) in
    next ≡ min (start + 34 * k) (length bytes)
    → kept_states k (length rest / 34) (state_before own part (length part / 34)) rest
    ≡ from (states_kept k n - suc i) (suc i) (λ e. state_before own (drop start bytes) (k * e - k * i))
states-after k some n own bytes j next l h next-is =
    let i = j / k in
    let a = k * i in
    let here = drop (34 * a) bytes in
    let le : a ≤ j = mul-div-le j k in
    let b = min k (n - a) in
    let upto : next ≡ 34 * (a + b) = omega (arith, next-is, l, h, le) in
    let few : b ≤ n - a = omega arith in
    let b-is : a + b - a ≡ b = omega arith in
    let part = by_part own bytes a (a + b) (34 * a) next refl upto (omega arith) (omega (arith, l, h, le, few)) ∙ ap (state_before own here) b-is in
    let place : next ≡ 34 * a + 34 * b = omega (arith, upto) in
    let rest = take_all (length bytes - next) (drop next bytes) (omega (arith, length-drop next bytes)) ∙ ap (λ (p : ℕ). drop p bytes) place ∙ sym (drop-drop (34 * b) (34 * a) bytes) in
    let left = blocks-left here (n - a) b (blocks-behind bytes n a l) in
    let count : states_kept k (n - a) - 1 ≡ states_kept k n - suc i = omega (arith, kept-rest k some n i (omega (arith, le, h))) in
    let f : ℕ → State = λ e. state_before own here (k * e - a) in
    let moved : (e : ℕ) → state_before own here (k * e) ≡ f (i + e) = λ e.
    let sum : k * (i + e) ≡ a + k * e = omega arith in
    let same : k * e ≡ k * (i + e) - a = omega (arith, sum) in
    ap (state_before own here) same in
    let one : i + 1 ≡ suc i = omega arith in
    ap₂ (λ (st : State) (xs : List ℕ). kept_states k (length xs / 34) st xs) part rest
    ∙ ap (λ (m : ℕ). kept_states k m (state_before own here b) (drop (34 * b) here)) left
    ∙ later k some own here (n - a) b refl
    ∙ alike (kept_state k own here) (λ e. f (i + e)) (states_kept k (n - a) - 1) 1 (λ e _ _. moved e)
    ∙ shifted f i (states_kept k (n - a) - 1) 1
    ∙ ap₂ (λ (m p : ℕ). from m p f) count one

-- There is room for them behind the states that stay.
pub room_after : (k : ℕ) → 1 ≤ k → k ≤ 64 → (n : ℕ) (own : State) (bytes index : List ℕ) (j next : ℕ) → length bytes ≡ 34 * n → n ≤ 1024 → j < n
    → length index ≡ index_length k n
    → let kept = 7 + 3 * (j / k) in
    let rest = take (length bytes - next) (drop next bytes) in
    kept ≤ length index
    → next ≡ min (34 * (k * (j / k)) + 34 * k) (length bytes)
    → Room k rest (take (length index - kept) (drop kept index))
room_after k some most n own bytes index j next l few h long le next-is =
    let i = j / k in
    let a = k * i in
    let part = take (next - 34 * a) (drop (34 * a) bytes) in
    let rest = take (length bytes - next) (drop next bytes) in
    let st = state_before own part (length part / 34) in
    let count : states_kept k (length rest / 34) ≡ states_kept k n - suc i =
    sym (length_from (kept_state k st rest) (states_kept k (length rest / 34)) 0)
    ∙ ap length (states-after k some n own bytes j next l h next-is)
    ∙ length_from (λ e. state_before own (drop (34 * a) bytes) (k * e - a)) (states_kept k n - suc i) (suc i) in
    let size : length rest ≡ length bytes - next = lent-behind next bytes (omega (arith, next-is)) in
    let whole : length rest ≡ 34 * (length rest / 34) = omega (arith, size, next-is, l) in
    (omega (arith, size, l, few), whole, some, most, lent-behind (7 + 3 * i) index le ∙ omega (arith, long, count))
