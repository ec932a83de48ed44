-- c channels that take turns in one list, `turn` items at a time: the samples of a block one by one, its bytes four by four. Assumes nothing.
use Rattle.std.specs.Prelude.{◌≡◌, List, ℕ, ◌+◌, ◌*◌, ◌/◌, ◌%◌, length, get_or}
use Rattle.num.specs.Lists.{from}

-- Where item d of channel e stands.
abbrev pub place : ℕ → ℕ → ℕ → ℕ → ℕ
place turn c e d = turn * (c * (d / turn) + e) + d % turn

-- Whose item stands at place p, and which of that channel's items it is.
abbrev pub channel_at : ℕ → ℕ → ℕ → ℕ
channel_at turn c p = p / turn % c

abbrev pub item_at : ℕ → ℕ → ℕ → ℕ
item_at turn c p = turn * (p / turn / c) + p % turn

-- The items of channel e alone; and a list of n items from those of every channel. x is read where there is nothing.
unfoldable pub strand : {X : Type 0} → ℕ → ℕ → X → List X → ℕ → List X
strand turn c x xs e = from (length xs / c) 0 (λ d. get_or xs (place turn c e d) x)

unfoldable pub woven : {X : Type 0} → ℕ → ℕ → X → ℕ → (ℕ → List X) → List X
woven turn c x n strands = from n 0 (λ p. get_or (strands (channel_at turn c p)) (item_at turn c p) x)

-- Two lists that are alike in length, and in all but the items of channel e.
abbrev pub AlikeBut : {X : Type 0} → ℕ → ℕ → X → ℕ → List X → List X → Type 0
AlikeBut turn c x e xs ys = (length ys ≡ length xs) × ((p : ℕ) → (channel_at turn c p ≡ e → ⊥) → get_or ys p x ≡ get_or xs p x)
