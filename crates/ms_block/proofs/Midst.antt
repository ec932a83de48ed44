-- In the midst of a block, the bytes before place `at` being done: which byte is next of each channel, and the state before it.
-- One byte more moves the state of its own channel alone. Over any states. Assumes nothing.
use mathlib.Core.Path.{◌≡◌, refl, sym, ap, ap₂, ◌∙◌, subst}
use mathlib.Core.List.{List}
use Prim.Native.Nat.{ℕ, suc, ◌+◌, ◌-◌, ◌*◌, ◌/◌, ◌%◌, ◌≤◌, ◌<◌}
use lib.Dec.{ltb, leb, eqb}
use native.Mathlib.Nat.{mul-le-mul_left}
use native.Mathlib.Omega.{arith}
use lib.IntN.{ℤ, pos}
use lib.ListN.{length, get_or, set, length-set}
use lib.Seq.{get_or-set_same, get_or-set_other}
use borrow.Author.Tests.{ltb-true, ltb-false, leb-true, leb-false, eqb-true, eqb-false}
use borrow.Table.Steps.{cases}
use Rattle.ima_nibble.specs.Step.{State, zero_state}
use Rattle.ms_block.specs.Weave.{place, channel_at, item_at}
use Rattle.ms_block.proofs.Sizes.{Shape, four_bytes}
use Rattle.ms_block.proofs.Weave.{channel-at, item-at, quotient, rest, above, in_list, in-strand}
use Rattle.ms_block.specs.Block.{state_in}

-- where byte d of channel e stands, headers included
abbrev pub byte : ℕ → ℕ → ℕ → ℕ
byte c = place 4 c

-- byte d is channel e's next
abbrev pub Next : ℕ → ℕ → ℕ → ℕ → Type 0
Next c at e d = (byte c e (d - 1) < at) × (at ≤ byte c e d)

-- each channel has the state before its next byte
abbrev pub States : ℕ → (ℕ → ℕ → State) → ℕ → List State → Type 0
States c stateAt at sts = (e d : ℕ) → e < c → 4 ≤ d → Next c at e d → state_in sts e ≡ stateAt e d

-- each channel has its samples, the first with its header and then two with a byte
abbrev pub Frames : ℕ → (ℕ → ℕ → ℤ) → ℕ → List ℤ → Type 0
Frames c frame at out = (e k : ℕ) → e < c → byte c e ((k + 7) / 2) < at → get_or out (c * k + e) (pos 0) ≡ frame e k

module _ (c : ℕ) (hc : 0 < c) where
  -- ---- places

  pub rises : (e d k : ℕ) → d < k → byte c e d < byte c e k
  rises e d k h =
      cases (ltb (d / 4) (k / 4))
      (λ t. omega (arith, h, hc, mul-le-mul_left {m = suc (d / 4)} {n = k / 4} c (ltb-true (d / 4) (k / 4) t)))
      (λ t.
      let same : d / 4 ≡ k / 4 = omega (arith, h, ltb-false (d / 4) (k / 4) t) in
      omega (arith, h, same, ap (λ (q : ℕ). c * q) same))

  pub not-before : (e d k : ℕ) → byte c e d ≤ byte c e k → d ≤ k
  not-before e d k h =
      cases (leb d k) (λ t. leb-true d k t) (λ t. absurd (omega (arith, h, rises e k d (leb-false d k t))))

  pub in_order : (e d k : ℕ) → byte c e d < byte c e k → d < k
  in_order e d k h =
      cases (leb k d)
      (λ t. absurd (cases (eqb k d)
      (λ s. omega (arith, h, ap (byte c e) (eqb-true k d s)))
      (λ s. omega (arith, h, rises e k d (omega (arith, leb-true k d t, eqb-false k d s))))))
      (λ t. leb-false k d t)

  pub one_place : (e d h k : ℕ) → e < c → h < c → byte c e d ≡ byte c h k → (e ≡ h) × (d ≡ k)
  one_place e d h k l r same = (
    sym (channel-at 4 c (omega arith) hc e d l) ∙ ap (channel_at 4 c) same ∙ channel-at 4 c (omega arith) hc h k r,
    sym (item-at 4 c (omega arith) hc e d l) ∙ ap (item_at 4 c) same ∙ item-at 4 c (omega arith) hc h k r,
  )

  pub in_group : (g ch j : ℕ) → j < 4 → byte c ch (4 * g + j) ≡ 4 * (c * g + ch) + j
  in_group g ch j h =
      let q : (4 * g + j) / 4 ≡ g = omega arith in
      let r : (4 * g + j) % 4 ≡ j = omega arith in
      rw (q, r) refl

  -- behind the headers every channel has had four bytes
  pub fourth : (e d : ℕ) → e < c → byte c e d < 4 * c → d < 4
  fourth e d h k =
      let l : 4 * (c * (d / 4) + e) + d % 4 < 4 * (c * 1) = omega (arith, k) in
      let q = above c (d / 4) e 1 (above 4 (c * (d / 4) + e) (d % 4) (c * 1) l) in
      omega (arith, q)

  -- ---- the state of each channel

  -- after byte d its own channel's next is the one behind it, and every other's the one that it was
  next-is : (e d k : ℕ) → 4 ≤ k → Next c (suc (byte c e d)) e k → k ≡ suc d
  next-is e d k four (a, b) = omega (arith, four, not-before e (k - 1) d (omega (arith, a)), in_order e d k b)

  another : (e h d k : ℕ) → e < c → h < c → (e ≡ h → ⊥) → Next c (suc (byte c h d)) e k → Next c (byte c h d) e k
  another e h d k l r other (a, b) =
      let apart : byte c e (k - 1) ≡ byte c h d → ⊥ = λ s. other (one_place e (k - 1) h d l r s).0 in
      (omega (arith, a, apart), omega (arith, b))

  module _ (stateAt : ℕ → ℕ → State) where
    pub states-first : (sts : List State) → ((e : ℕ) → e < c → state_in sts e ≡ stateAt e 4) → States c stateAt (4 * c) sts
    states-first sts h e d l four (a, b) =
        let is : d ≡ 4 = omega (arith, four, fourth e (d - 1) l a) in
        h e l ∙ ap (stateAt e) (sym is)

    -- of the channel whose byte stands at the place
    pub state-now : (ch d : ℕ) (sts : List State) → ch < c → 4 ≤ d → States c stateAt (byte c ch d) sts → state_in sts ch ≡ stateAt ch d
    state-now ch d sts l four u = u ch d l four (rises ch (d - 1) d (omega arith), omega arith)

    pub states-turn : (ch d : ℕ) (sts : List State) (st : State) → ch < c → 4 ≤ d → ch < length sts → st ≡ stateAt ch (suc d)
        → States c stateAt (byte c ch d) sts → States c stateAt (suc (byte c ch d)) (set sts ch st)
    states-turn ch d sts st l four room is u e k h four' nx =
        cases (eqb e ch)
        (λ t.
        let same = eqb-true e ch t in
        let k-is = next-is ch d k four' (subst (λ (i : ℕ). Next c (suc (byte c ch d)) i k) same nx) in
        subst (λ (i : ℕ). state_in (set sts ch st) i ≡ stateAt i k) (sym same) (get_or-set_same sts ch st zero_state room ∙ is ∙ ap (stateAt ch) (sym k-is)))
        (λ t.
        let other = eqb-false e ch t in
        get_or-set_other sts ch e st zero_state other ∙ u e k h four' (another e ch d k h l other nx))

    -- behind the last byte
    pub states-last : {n m : ℕ} → Shape c n m → (sts : List State) → States c stateAt n sts → (e : ℕ) → e < c → state_in sts e ≡ stateAt e (n / c)
    states-last {n} is sts u e l =
        let q = n / c in
        let last : byte c e (q - 1) < n = in_list 4 c (omega arith) hc n e (q - 1) is.even l (omega (arith, four_bytes is)) in
        let behind : n ≤ byte c e q =
        cases (ltb (byte c e q) n)
        (λ t. absurd (omega (arith, in-strand 4 c (omega arith) hc n e q is.even l (ltb-true (byte c e q) n t))))
        (λ t. ltb-false (byte c e q) n t) in
        u e q l (four_bytes is) (last, behind)

  -- ---- the samples of each channel

  one-frame : (e k h l : ℕ) → e < c → h < c → c * k + e ≡ c * l + h → (e ≡ h) × (k ≡ l)
  one-frame e k h l el hl same = (
    sym (rest c k e el) ∙ ap (λ (p : ℕ). p % c) same ∙ rest c l h hl,
    sym (quotient c k e el) ∙ ap (λ (p : ℕ). p / c) same ∙ quotient c l h hl,
  )

  module _ (frame : ℕ → ℕ → ℤ) where
    pub frames-first : (out : List ℤ) → ((e : ℕ) → e < c → get_or out e (pos 0) ≡ frame e 0) → Frames c frame (4 * c) out
    frames-first out h e k l b =
        let k-is : k ≡ 0 = omega (arith, fourth e ((k + 7) / 2) l b) in
        let p-is : c * k + e ≡ e = ap (λ (i : ℕ). c * i + e) k-is ∙ omega arith in
        rw p-is (h e l ∙ ap (frame e) (sym k-is))

    pub frames-turn : (ch d : ℕ) (out : List ℤ) (x y : ℤ) → ch < c → 4 ≤ d → c * (2 * d - 7) + ch + c < length out
        → x ≡ frame ch (2 * d - 7) → y ≡ frame ch (2 * d - 6)
        → Frames c frame (byte c ch d) out → Frames c frame (suc (byte c ch d)) (set (set out (c * (2 * d - 7) + ch) x) (c * (2 * d - 7) + ch + c) y)
    frames-turn ch d out x y l four room x-is y-is u e k h b =
        let f = 2 * d - 7 in
        let p = c * f + ch in
        let second : c * suc f + ch ≡ p + c = omega arith in
        let f-is : 2 * d - 6 ≡ suc f = omega (arith, four) in
        let one = set out p x in
        let long = length-set out p x in
        cases (eqb (c * k + e) (p + c))
        (λ t.
        let same = eqb-true (c * k + e) (p + c) t in
        let (e-is, k-is) = one-frame e k ch (suc f) h l (same ∙ sym second) in
        rw same (get_or-set_same one (p + c) y (pos 0) (omega (arith, room, long)) ∙ y-is ∙ ap₂ frame (sym e-is) (f-is ∙ sym k-is)))
        (λ t.
        let not-second = eqb-false (c * k + e) (p + c) t in
        get_or-set_other one (p + c) (c * k + e) y (pos 0) not-second
        ∙ cases (eqb (c * k + e) p)
        (λ t.
        let same = eqb-true (c * k + e) p t in
        let (e-is, k-is) = one-frame e k ch f h l same in
        rw same (get_or-set_same out p x (pos 0) (omega (arith, room)) ∙ x-is ∙ ap₂ frame (sym e-is) (sym k-is)))
        (λ t.
        let not_first = eqb-false (c * k + e) p t in
        let apart : byte c e ((k + 7) / 2) ≡ byte c ch d → ⊥ =
        λ s.
        let (e-is, d-is) = one_place e ((k + 7) / 2) ch d h l s in
        cases (eqb k f)
        (λ t. not_first (ap₂ (λ (i j : ℕ). c * i + j) (eqb-true k f t) e-is))
        (λ t. not-second (ap₂ (λ (i j : ℕ). c * i + j) (omega (arith, d-is, four, eqb-false k f t)) e-is ∙ second)) in
        get_or-set_other out p (c * k + e) x (pos 0) not_first ∙ u e k h (omega (arith, b, apart))))
