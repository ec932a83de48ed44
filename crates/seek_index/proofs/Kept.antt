-- How many states are kept, and before which blocks. Assumes nothing.
use mathlib.Core.Path.{◌≡◌, sym, ap, ◌∙◌}
use Prim.Native.Nat.{ℕ, suc, ◌+◌, ◌-◌, ◌*◌, ◌/◌, ◌≤◌, ◌<◌}
use native.Mathlib.Nat.{div-add-mod, mod-lt, add-mul-div_left, mul-le-mul_left, lt_of_not-le}
use native.Mathlib.Omega.{arith}
use Rattle.seek_index.specs.Record.{states_kept}

module _ (k : ℕ) (some : 1 ≤ k) (n : ℕ) where
  -- n/k rounded up: enough for n, and no more than enough
  pub all-kept : n ≤ k * states_kept k n
  all-kept = omega (arith, div-add-mod (n + (k - 1)) k, mod-lt (n + (k - 1)) some)

  pub kept-before : (i : ℕ) → i < states_kept k n → k * i < n
  kept-before i h = omega (arith, div-add-mod (n + (k - 1)) k, mul-le-mul_left {m = suc i} {n = states_kept k n} k (omega arith))

  -- the one at or before a block is there
  pub kept_at : (j : ℕ) → j < n → j / k < states_kept k n
  kept_at j h = lt_of_not-le (λ l. omega (arith, all-kept, div-add-mod j k, mul-le-mul_left {m = states_kept k n} {n = j / k} k l))

  -- behind the first i of them stand those of the blocks behind
  pub kept-rest : (i : ℕ) → k * i ≤ n → states_kept k (n - k * i) ≡ states_kept k n - i
  kept-rest i h =
      let parts : n - k * i + (k - 1) + k * i ≡ n + (k - 1) = omega arith in
      let counts = sym (add-mul-div_left (n - k * i + (k - 1)) i some) ∙ ap (λ (x : ℕ). x / k) parts in
      omega (arith, counts)

  pub none_kept : (i : ℕ) → n ≤ k * i → states_kept k n ≤ i
  none_kept i h = omega (arith, lt_of_not-le {n = suc i} {m = states_kept k n} (λ l. omega (arith, kept-before i l)))

  -- At most k - 1 blocks stand between the kept state at or before block j and that block.
  pub few-between : (j : ℕ) → j - k * (j / k) ≤ k - 1
  few-between j = omega (arith, div-add-mod j k, mod-lt j some)
