-- What stands at a place of a list that is given by a rule, so that a table's rule is one equation of two lists;
-- and such a list written from the front, one place at a turn: what is written, then the rest of the rule's list, is the rule's list. Assumes nothing.
use mathlib.Core.Path.{◌≡◌, refl, sym, ap, ap₂, ◌∙◌}
use mathlib.Core.List.{List, [], ◌∷◌, ◌++◌, map, append-nil, append_assoc}
use Prim.Native.Nat.{ℕ, zero, suc, ◌+◌, ◌-◌, ◌<◌, ◌≤◌}
use native.Mathlib.Omega.{arith}
use lib.ListN.{length, get_or, set, take, get_or-map}
use lib.Seq.{take-suc, take-suc-set, take_all, set-get_or, ext_get_or}
use Rattle.num.specs.Lists.{from, All}

pub all_split : {X : Type 0} (P : X → Type 0) (xs ys : List X) → All P (xs ++ ys) → All P xs × All P ys
all_split P [] ys h = (tt, h)
all_split P (x ∷ xs) ys (h, k) = let (l, r) = all_split P xs ys k in ((h, l), r)

-- what holds of each, and of what is read where there is nothing, holds at every place
pub all-at : {X : Type 0} (P : X → Type 0) (xs : List X) (i : ℕ) (d : X) → P d → All P xs → P (get_or xs i d)
all-at P [] i d l h = l
all-at P (x ∷ xs) zero d l (h, k) = h
all-at P (x ∷ xs) (suc i) d l (h, k) = all-at P xs i d l k

-- of each, where one is set
pub map-set : {X Y : Type 0} (f : X → Y) (xs : List X) (i : ℕ) (x : X) → map f (set xs i x) ≡ set (map f xs) i (f x)
map-set f [] i x = refl
map-set f (y ∷ xs) zero x = refl
map-set f (y ∷ xs) (suc i) x = ap (λ ys. f y ∷ ys) (map-set f xs i x)

pub map-kept : {X Y : Type 0} (f : X → Y) (xs : List X) (i : ℕ) (d : X) → map f xs ≡ set (map f xs) i (f (get_or xs i d))
map-kept f xs i d = ap (map f) (sym (set-get_or xs i d)) ∙ map-set f xs i (get_or xs i d)

-- a list written from the front: one place more, with whatever stands behind it; and all of them
module _ {X : Type 0} (out : List X) where
  pub put : (k : ℕ) (x : X) (rest : List X) → k < length out → take (suc k) (set out k x) ++ rest ≡ take k out ++ (x ∷ rest)
  put k x rest h = ap (λ (xs : List X). xs ++ rest) (take-suc-set out k x h) ∙ append_assoc (take k out) (x ∷ []) rest

  pub whole : (n : ℕ) → length out ≤ n → take n out ++ [] ≡ out
  whole n h = append-nil (take n out) ∙ take_all n out h

-- a list written from the front that is to be another: one place more; and all of them
module _ {X : Type 0} (out xs : List X) (d : X) where
  pub as-far : (k : ℕ) (x : X) → k < length out → k < length xs → x ≡ get_or xs k d → take k out ≡ take k xs → take (suc k) (set out k x) ≡ take (suc k) xs
  as-far k x h l e same = take-suc-set out k x h ∙ ap₂ (λ ys y. ys ++ (y ∷ [])) same e ∙ sym (take-suc xs k d l)

  pub as_long : (n : ℕ) → length out ≡ n → length xs ≡ n → take n out ≡ take n xs → out ≡ xs
  as_long n h l same = sym (take_all n out (omega arith)) ∙ same ∙ take_all n xs (omega arith)

module _ {X : Type 0} (f : ℕ → X) where
  pub length_from : (n i : ℕ) → length (from n i f) ≡ n
  unfolding from
  length_from zero i = refl
  length_from (suc n) i = ap suc (length_from n (suc i))

  pub get_or-from : (n i k : ℕ) (d : X) → k < n → get_or (from n i f) k d ≡ f (i + k)
  unfolding from
  get_or-from zero i k d h = absurd (omega arith)
  get_or-from (suc n) i zero d h = ap f (omega arith)
  get_or-from (suc n) i (suc k) d h = get_or-from n (suc i) k d (omega arith) ∙ ap f (omega arith)

  pub all_from : (P : X → Type 0) → ((k : ℕ) → P (f k)) → (n i : ℕ) → All P (from n i f)
  unfolding from
  all_from P h zero i = tt
  all_from P h (suc n) i = (h i, all_from P h n (suc i))

  -- a rule that gives the same there
  pub alike : (g : ℕ → X) (n i : ℕ) → ((p : ℕ) → i ≤ p → p < i + n → f p ≡ g p) → from n i f ≡ from n i g
  unfolding from
  alike g zero i h = refl
  alike g (suc n) i h = ap₂ (λ x xs. x ∷ xs) (h i (omega arith) (omega arith)) (alike g n (suc i) (λ p l u. h p (omega arith) (omega arith)))

  -- a table that is the rule's list has the rule's value at each place
  pub table : (xs : List X) (n : ℕ) → xs ≡ from n 0 f → (k : ℕ) (d : X) → k < n → get_or xs k d ≡ f k
  table xs n e k d h = ap (λ (ys : List X). get_or ys k d) e ∙ get_or-from n 0 k d h ∙ ap f (omega arith)

  -- and a list that has it is the rule's list
  pub by_place : (xs : List X) (n : ℕ) (d : X) → length xs ≡ n → ((k : ℕ) → k < n → get_or xs k d ≡ f k) → xs ≡ from n 0 f
  by_place xs n d long at =
      ext_get_or d xs (from n 0 f) (long ∙ sym (length_from n 0))
      (λ k h. at k (omega (arith, h, long)) ∙ ap f (omega arith) ∙ sym (get_or-from n 0 k d (omega (arith, h, long))))

  -- k places of n are written
  abbrev pub Upto : ℕ → List X → ℕ → Type 0
  Upto n out k = take k out ++ from (n - k) k f ≡ from n 0 f

  pub none : (n : ℕ) (out : List X) → Upto n out 0
  none n out = let e : n - 0 ≡ n = omega arith in rw e refl

  pub one_more : (n k : ℕ) (out : List X) (x : X) → length out ≡ n → k < n → x ≡ f k → Upto n out k → Upto n (set out k x) (k + 1)
  unfolding from
  one_more n k out x e h x-is u =
      let rest : n - k ≡ suc (n - suc k) = omega arith in
      let next : k + 1 ≡ suc k = omega arith in
      rw (x-is, next)
      (put out k (f k) (from (n - suc k) (suc k) f) (omega arith)
      ∙ ap (λ (j : ℕ). take k out ++ from j k f) (sym rest)
      ∙ u)

  pub all : (n : ℕ) (out : List X) → length out ≡ n → Upto n out n → out ≡ from n 0 f
  unfolding from
  all n out e u =
      let rest : n - n ≡ 0 = omega arith in
      sym (whole out n (omega arith))
      ∙ ap (λ (j : ℕ). take n out ++ from j n f) (sym rest)
      ∙ u

-- and of what is seen of each of another list
pub by_view : {X Y Z : Type 0} (view : Y → Z) (f : Z → X) (ys : List Y) (xs : List X) (n : ℕ) (d : Y) (x : X)
    → length xs ≡ n → ((k : ℕ) → k < n → get_or xs k x ≡ f (view (get_or ys k d))) → xs ≡ from n 0 (λ k. f (get_or (map view ys) k (view d)))
by_view view f ys xs n d x long at =
    by_place (λ k. f (get_or (map view ys) k (view d))) xs n x long (λ k h. at k h ∙ ap f (sym (get_or-map view ys k d)))
