-- The bytes of states, and the states read back from a record. Assumes nothing.
use mathlib.Core.Path.{◌≡◌, refl, sym, ap, ◌∙◌}
use mathlib.Core.List.{List, [], ◌∷◌, ◌++◌, append-nil}
use Prim.Native.Nat.{ℕ, zero, suc, ◌+◌, ◌-◌, ◌*◌, ◌/◌, ◌%◌, ◌≤◌, ◌<◌}
use native.Mathlib.Omega.{arith}
use lib.ListN.{length, get_or, take, drop, length-drop, drop_of_length-le}
use lib.Seq.{drop-cons, drop-append-add, length-take-le}
use borrow.Rule.Slice.PartMut.{put_mid}
use Rattle.num.specs.Lists.{from}
use Rattle.halves.specs.Halves.{bits_of}
use Rattle.halves.proofs.Halves.{halves-back}
use Rattle.ima_nibble.specs.Step.{State, state, uncounted, sixteen, In}
use Rattle.seek_index.specs.Record.{state_bytes, state_in}

pub bytes-length : (sts : List State) → length (state_bytes sts) ≡ 3 * length sts
unfolding state_bytes
bytes-length [] = refl
bytes-length (st ∷ sts) = omega (arith, bytes-length sts)

pub bytes-append : (xs ys : List State) → state_bytes (xs ++ ys) ≡ state_bytes xs ++ state_bytes ys
unfolding state_bytes
bytes-append [] ys = refl
bytes-append (x ∷ xs) ys = rw (bytes-append xs ys) refl

bytes_drop : (i : ℕ) (sts : List State) → drop (3 * i) (state_bytes sts) ≡ state_bytes (drop i sts)
unfolding state_bytes
bytes_drop zero sts = refl
bytes_drop (suc i) [] = let e : 3 * suc i ≡ suc (suc (suc (3 * i))) = omega arith in rw e refl
bytes_drop (suc i) (st ∷ sts) = let e : 3 * suc i ≡ suc (suc (suc (3 * i))) = omega arith in rw e (bytes_drop i sts)

-- They have nothing of a count.
pub bytes-bare : (f : ℕ → State) (n i : ℕ) → state_bytes (from n i f) ≡ state_bytes (from n i (λ e. uncounted (f e)))
unfolding from state_bytes
bytes-bare f zero i = refl
bytes-bare f (suc n) i = let st = f i in ap (λ (bs : List ℕ). (bits_of st.predictor / 256) ∷ (bits_of st.predictor % 256) ∷ st.index ∷ bs) (bytes-bare f n (suc i))

-- A state of 16 bits comes back, its index as it was, without its count.
pub state-back : (head : List ℕ) → length head ≡ 4 → (sts : List State) (i : ℕ) (d : State) → i < length sts → In sixteen (get_or sts i d).predictor
    → state_in (head ++ state_bytes sts) i ≡ uncounted (get_or sts i d)
unfolding state_bytes
state-back head four sts i d h inside =
    let st = get_or sts i d in
    let behind = ap (λ (n : ℕ). drop (n + 3 * i) (head ++ state_bytes sts)) (sym four) ∙ drop-append-add head (state_bytes sts) (3 * i) in
    let three = behind ∙ bytes_drop i sts ∙ ap state_bytes (drop-cons sts i d h) in
    rw three (ap (λ p. state p st.index 0) (halves-back st.predictor inside.above inside.below))

-- all behind the first p is written, as it was lent
pub put-behind : (p : ℕ) (xs ys : List ℕ) → p ≤ length xs → put_mid p (length xs - p) xs ys ≡ take p xs ++ ys
put-behind p xs ys h =
    let none = drop_of_length-le (drop p xs) {i = length xs - p} (omega (arith, length-drop p xs)) in
    ap (λ (zs : List ℕ). take p xs ++ (ys ++ zs)) none ∙ ap (λ (zs : List ℕ). take p xs ++ zs) (append-nil ys)

-- what is lent there
pub lent-behind : (p : ℕ) (xs : List ℕ) → p ≤ length xs → length (take (length xs - p) (drop p xs)) ≡ length xs - p
lent-behind p xs h = length-take-le (length xs - p) (drop p xs) (omega (arith, length-drop p xs))
