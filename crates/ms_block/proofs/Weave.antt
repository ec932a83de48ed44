-- Channels that take turns in one list: which item stands where, so that a list is its channels' items, and each channel's items are in it. Assumes nothing.
use mathlib.Core.Path.{◌≡◌, refl, sym, ap, ap₂, ◌∙◌}
use mathlib.Core.Logic.{◌⊎◌, inl, inr}
use mathlib.Core.List.{List}
use Prim.Native.Nat.{ℕ, suc, ◌+◌, ◌*◌, ◌/◌, ◌%◌, ◌<◌}
use native.Mathlib.Nat.{div-add-mod, mul-add-div, mul-add-mod_self_left, mod-lt, mod-eq_of_lt, div-eq_of_lt, mul-le-mul_left, lt_of_mul-lt-mul_left}
use native.Mathlib.Omega.{arith}
use lib.ListN.{length, get_or}
use lib.Seq.{ext_get_or}
use Rattle.num.specs.Lists.{from}
use Rattle.num.proofs.Lists.{length_from, get_or-from}
use Rattle.ms_block.specs.Weave.{place, channel_at, item_at, strand, woven, AlikeBut}

-- a number by its quotient and its rest
pub quotient : (m a b : ℕ) → b < m → (m * a + b) / m ≡ a
quotient m a b h = mul-add-div (omega arith) a b ∙ ap (λ r. a + r) (div-eq_of_lt h) ∙ omega arith

pub rest : (m a b : ℕ) → b < m → (m * a + b) % m ≡ b
rest m a b h = mul-add-mod_self_left m a b ∙ mod-eq_of_lt h

-- such a number below a multiple of m, and the other way round
pub below : (m a b g : ℕ) → b < m → a < g → m * a + b < m * g
below m a b g h k = omega (arith, h, mul-le-mul_left {m = suc a} {n = g} m k)

pub above : (m a b g : ℕ) → m * a + b < m * g → a < g
above m a b g k = lt_of_mul-lt-mul_left m {m = a} {n = g} (omega (arith, k))

-- a list of n items that has as many of each channel: it ends with a round of turns, or has one channel
abbrev pub Even : ℕ → ℕ → ℕ → Type 0
Even turn c n = (c ≡ 1) ⊎ (n % (turn * c) ≡ 0)

-- where item k of channel e stands, one at a time
pub singly : (c e k : ℕ) → place 1 c e k ≡ c * k + e
singly c e k =
    let q : k / 1 ≡ k = omega arith in
    let r : k % 1 ≡ 0 = omega arith in
    rw (q, r) (omega arith)

module _ (turn c : ℕ) (ht : 0 < turn) (hc : 0 < c) where
  abbrev at : ℕ → ℕ → ℕ
  at = place turn c

  -- ---- who stands at a place

  round : (e d : ℕ) → at e d / turn ≡ c * (d / turn) + e
  round e d = quotient turn (c * (d / turn) + e) (d % turn) (mod-lt d ht)

  pub channel-at : (e d : ℕ) → e < c → channel_at turn c (at e d) ≡ e
  channel-at e d h = rw (round e d) (rest c (d / turn) e h)

  pub item-at : (e d : ℕ) → e < c → item_at turn c (at e d) ≡ d
  item-at e d h =
      rw (round e d, quotient c (d / turn) e h, rest turn (c * (d / turn) + e) (d % turn) (mod-lt d ht)) (div-add-mod d turn)

  pub placed : (p : ℕ) → at (channel_at turn c p) (item_at turn c p) ≡ p
  placed p =
      let r = p / turn / c in
      rw (quotient turn r (p % turn) (mod-lt p ht), rest turn r (p % turn) (mod-lt p ht), div-add-mod (p / turn) c) (div-add-mod p turn)

  pub channel-lt : (p : ℕ) → channel_at turn c p < c
  channel-lt p = mod-lt (p / turn) hc

  -- ---- as many items of each

  pub rounds : (n : ℕ) → n % (turn * c) ≡ 0 → n ≡ turn * (c * (n / (turn * c)))
  rounds n h = let e = div-add-mod n (turn * c) in omega (arith, e, h)

  share : (n : ℕ) → n % (turn * c) ≡ 0 → n / c ≡ turn * (n / (turn * c))
  share n h =
      let g = n / (turn * c) in
      let e : n ≡ c * (turn * g) + 0 = rounds n h ∙ omega arith in
      ap (λ k. k / c) e ∙ quotient c (turn * g) 0 hc

  -- of one channel the items are the list
  alone : (e d : ℕ) → c ≡ 1 → e < c → at e d ≡ d
  alone e d o h =
      let z : e ≡ 0 = omega (arith, o, h) in
      ap₂ (λ (k i : ℕ). turn * (k * (d / turn) + i) + d % turn) o z ∙ omega (arith, div-add-mod d turn)

  undivided : (n : ℕ) → c ≡ 1 → n / c ≡ n
  undivided n o = ap (λ (k : ℕ). n / k) o ∙ omega arith

  pub shared : (n : ℕ) → Even turn c n → n ≡ c * (n / c)
  shared n (inl o) = let e : n ≡ 1 * n = omega arith in e ∙ sym (ap₂ (λ (k q : ℕ). k * q) o (undivided n o))
  shared n (inr o) = rounds n o ∙ omega (arith, ap (λ (q : ℕ). c * q) (share n o))

  pub in_list : (n e d : ℕ) → Even turn c n → e < c → d < n / c → at e d < n
  in_list n e d (inl o) h k = rw (alone e d o h) (omega (arith, k, undivided n o))
  in_list n e d (inr o) h k =
      let g = n / (turn * c) in
      let whole = above turn (d / turn) (d % turn) g (omega (arith, k, share n o, div-add-mod d turn)) in
      omega (arith, rounds n o, below turn (c * (d / turn) + e) (d % turn) (c * g) (mod-lt d ht) (below c (d / turn) e g h whole))

  pub in-strand : (n e d : ℕ) → Even turn c n → e < c → at e d < n → d < n / c
  in-strand n e d (inl o) h k = omega (arith, k, alone e d o h, undivided n o)
  in-strand n e d (inr o) h k =
      let g = n / (turn * c) in
      let whole = above c (d / turn) e g (above turn (c * (d / turn) + e) (d % turn) (c * g) (omega (arith, k, rounds n o))) in
      omega (arith, share n o, div-add-mod d turn, below turn (d / turn) (d % turn) g (mod-lt d ht) whole)

  -- ---- a list and its channels' items

  module _ {X : Type 0} (x : X) where
    -- what stands at each place, of all channels, is the whole list
    pub weaves : (n : ℕ) (strands : ℕ → List X) (xs : List X) → length xs ≡ n
        → ((e d : ℕ) → e < c → at e d < n → get_or xs (at e d) x ≡ get_or (strands e) d x)
        → xs ≡ woven turn c x n strands
    unfolding woven
    weaves n strands xs l h =
        let f : ℕ → X = λ p. get_or (strands (channel_at turn c p)) (item_at turn c p) x in
        ext_get_or x xs (from n 0 f) (l ∙ sym (length_from f n 0))
        (λ p k.
        let e = h (channel_at turn c p) (item_at turn c p) (channel-lt p) (rw (placed p) (omega (arith, k, l))) in
        let is : get_or xs p x ≡ f p = rw (placed p) at e in
        is ∙ ap f (omega arith) ∙ sym (get_or-from f n 0 p x (omega (arith, k, l))))

    pub woven-length : (n : ℕ) (strands : ℕ → List X) → length (woven turn c x n strands) ≡ n
    unfolding woven
    woven-length n strands = length_from _ n 0

    pub woven-at : (n : ℕ) (strands : ℕ → List X) (e d : ℕ) → e < c → at e d < n → get_or (woven turn c x n strands) (at e d) x ≡ get_or (strands e) d x
    unfolding woven
    woven-at n strands e d h k =
        let f : ℕ → X = λ p. get_or (strands (channel_at turn c p)) (item_at turn c p) x in
        get_or-from f n 0 (at e d) x k ∙ ap f (omega arith) ∙ ap₂ (λ (a b : ℕ). get_or (strands a) b x) (channel-at e d h) (item-at e d h)

    pub strand-length : (xs : List X) (e : ℕ) → length (strand turn c x xs e) ≡ length xs / c
    unfolding strand
    strand-length xs e = length_from _ (length xs / c) 0

    pub strand-at : (xs : List X) (e d : ℕ) → d < length xs / c → get_or (strand turn c x xs e) d x ≡ get_or xs (at e d) x
    unfolding strand
    strand-at xs e d h = let f : ℕ → X = λ i. get_or xs (at e i) x in get_or-from f (length xs / c) 0 d x h ∙ ap f (omega arith)

    -- lists that are alike but for one channel's items have the same items of every other
    pub others-alike : (e : ℕ) (xs ys : List X) → AlikeBut turn c x e xs ys → (h : ℕ) → h < c → (h ≡ e → ⊥) → strand turn c x ys h ≡ strand turn c x xs h
    others-alike e xs ys (long, alike) h l other =
        let share : length ys / c ≡ length xs / c = ap (λ (n : ℕ). n / c) long in
        ext_get_or x (strand turn c x ys h) (strand turn c x xs h) (strand-length ys h ∙ share ∙ sym (strand-length xs h))
        (λ d k.
        let inside : d < length ys / c = omega (arith, k, strand-length ys h) in
        strand-at ys h d inside
        ∙ alike (at h d) (λ s. other (sym (channel-at h d l) ∙ s))
        ∙ sym (strand-at xs h d (omega (arith, inside, share))))

    -- ---- there and back

    -- each channel's items are read back from the list that they were woven into
    pub unwoven : (n : ℕ) (strands : ℕ → List X) (e : ℕ) → Even turn c n → e < c → length (strands e) ≡ n / c → strand turn c x (woven turn c x n strands) e ≡ strands e
    unwoven n strands e even h l =
        let xs = woven turn c x n strands in
        let long = strand-length xs e ∙ ap (λ (k : ℕ). k / c) (woven-length n strands) in
        ext_get_or x (strand turn c x xs e) (strands e) (long ∙ sym l)
        (λ d k.
        strand-at xs e d (omega (arith, k, strand-length xs e))
        ∙ woven-at n strands e d h (in_list n e d even h (omega (arith, k, long))))

    -- nothing else of the channels is in that list
    pub woven-same : (n : ℕ) (strands others : ℕ → List X) → ((e : ℕ) → e < c → strands e ≡ others e) → woven turn c x n strands ≡ woven turn c x n others
    woven-same n strands others same =
        weaves n others (woven turn c x n strands) (woven-length n strands)
        (λ e d h k. woven-at n strands e d h k ∙ ap (λ (ys : List X). get_or ys d x) (same e h))

    -- and a list is woven again from its channels' items
    pub rewoven : (xs : List X) → Even turn c (length xs) → woven turn c x (length xs) (strand turn c x xs) ≡ xs
    rewoven xs even =
        sym (weaves (length xs) (strand turn c x xs) xs refl (λ e d h k. sym (strand-at xs e d (in-strand (length xs) e d even h k))))
