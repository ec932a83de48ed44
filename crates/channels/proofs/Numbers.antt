-- The channels' states by their numbers. Assumes nothing.
use mathlib.Core.Path.{◌≡◌, refl, sym, ap, ap₂, ◌∙◌}
use mathlib.Core.List.{List}
use Prim.Native.Nat.{ℕ, ◌+◌, ◌<◌}
use native.Mathlib.Omega.{arith}
use lib.IntN.{ℤ, pos}
use lib.ListN.{length, get_or}
use lib.Seq.{ext_get_or}
use Rattle.num.specs.Lists.{from}
use Rattle.num.proofs.Lists.{length_from, get_or-from}
use Rattle.ima_nibble.specs.Step.{State, state, zero_state}
use Rattle.ms_block.specs.Sizes.{most}
use Rattle.ms_block.specs.Block.{state_in, counts_of}
use Rattle.channels.specs.States.{states_of, predictors_of, indices_of}

abbrev rule : List ℤ → List ℕ → List ℕ → ℕ → State
rule ps is ns e = state (get_or ps e (pos 0)) (get_or is e 0) (get_or ns e 0)

pub numbers-length : (ps : List ℤ) (is ns : List ℕ) → length (states_of ps is ns) ≡ most
unfolding states_of
numbers-length ps is ns = length_from _ most 0

-- As many numbers come of them.
pub predictors-length : (states : List State) → length (predictors_of states) ≡ most
unfolding predictors_of
predictors-length states = length_from _ most 0

pub indices-length : (states : List State) → length (indices_of states) ≡ most
unfolding indices_of
indices-length states = length_from _ most 0

pub counts-length : (states : List State) → length (counts_of states) ≡ most
unfolding counts_of
counts-length states = length_from _ most 0

-- Nothing is lost between the states and their numbers.
pub numbers-back : (states : List State) → length states ≡ most → states_of (predictors_of states) (indices_of states) (counts_of states) ≡ states
unfolding states_of predictors_of indices_of counts_of
numbers-back states long =
    let p : ℕ → ℤ = λ e. (state_in states e).predictor in
    let i : ℕ → ℕ = λ e. (state_in states e).index in
    let n : ℕ → ℕ = λ e. (state_in states e).clipped in
    let f = rule (predictors_of states) (indices_of states) (counts_of states) in
    sym (ext_get_or zero_state states (from most 0 f) (long ∙ sym (length_from f most 0))
    (λ e h.
    let l : e < most = omega (arith, h, long) in
    let z : 0 + e ≡ e = omega arith in
    sym (get_or-from f most 0 e zero_state l
    ∙ ap f z
    ∙ ap₂ (λ (q : ℤ) (j : ℕ). state q j (get_or (counts_of states) e 0)) (get_or-from p most 0 e (pos 0) l ∙ ap p z) (get_or-from i most 0 e 0 l ∙ ap i z)
    ∙ ap (state (p e) (i e)) (get_or-from n most 0 e 0 l ∙ ap n z))))

-- And nothing between the numbers of as many channels and their states,
module _ (ps : List ℤ) (is ns : List ℕ) where
  abbrev sts : List State
  sts = states_of ps is ns

  at : (e : ℕ) → e < most → state_in sts (0 + e) ≡ rule ps is ns e
  unfolding states_of
  at e h =
      let z : 0 + e ≡ e = omega arith in
      ap (state_in sts) z ∙ get_or-from (rule ps is ns) most 0 e zero_state h ∙ ap (rule ps is ns) z

  -- one number of each state
  back : {X : Type 0} (x : X) (one : State → X) (xs : List X) → ((e : ℕ) → one (rule ps is ns e) ≡ get_or xs e x) → length xs ≡ most → from most 0 (λ e. one (state_in sts e)) ≡ xs
  back {X} x one xs same long =
      let f : ℕ → X = λ e. one (state_in sts e) in
      sym (ext_get_or x xs (from most 0 f) (long ∙ sym (length_from f most 0))
      (λ e h. sym (get_or-from f most 0 e x (omega (arith, h, long)) ∙ ap one (at e (omega (arith, h, long))) ∙ same e)))

  predictors-back : length ps ≡ most → predictors_of sts ≡ ps
  unfolding predictors_of
  predictors-back = back (pos 0) (λ st. st.predictor) ps (λ e. refl)

  indices-back : length is ≡ most → indices_of sts ≡ is
  unfolding indices_of
  indices-back = back 0 (λ st. st.index) is (λ e. refl)

  counts-back : length ns ≡ most → counts_of sts ≡ ns
  unfolding counts_of
  counts-back = back 0 (λ st. st.clipped) ns (λ e. refl)

-- so that three arrays and three others that are the same states are the same.
pub numbers-faithful : (ps qs : List ℤ) (is js ns ms : List ℕ) → length ps ≡ most → length qs ≡ most → length is ≡ most → length js ≡ most → length ns ≡ most → length ms ≡ most
    → states_of ps is ns ≡ states_of qs js ms → (ps ≡ qs) × (is ≡ js) × (ns ≡ ms)
numbers-faithful ps qs is js ns ms p q i j n m same = (
  sym (predictors-back ps is ns p) ∙ ap predictors_of same ∙ predictors-back qs js ms q,
  sym (indices-back ps is ns i) ∙ ap indices_of same ∙ indices-back qs js ms j,
  sym (counts-back ps is ns n) ∙ ap counts_of same ∙ counts-back qs js ms m,
)
