-- The channel numbers and lengths that an MS call takes. Assumes nothing.
use Rattle.std.specs.Prelude.{◌≡◌, Bool, cond, ◌&&◌, ◌||◌, ℕ, ◌+◌, ◌-◌, ◌*◌, ◌/◌, ◌%◌, ◌≤◌, eqb, leb}

-- The most channels that a block has.
abbrev pub most : ℕ
most = 8

-- The channel number is 1 to 8.
abbrev pub channelled : ℕ → Bool
channelled c = leb 1 c && leb c most

-- Block length n: 4c to 65,535, and from two channels up divisible by 4c.
abbrev pub sized : ℕ → ℕ → Bool
sized c n = leb (4 * c) n && leb n 65535 && (eqb c 1 || eqb (n % (4 * c)) 0)

-- From two channels up: block length is the channel number times four, times one or more, up to 65,535. The first of these are the headers, and `groups`
-- are the others.
pub record Grouped (c n : ℕ) : Type 0 where
  pub groups : ℕ
  pub whole : n ≡ c * 4 * (1 + groups)
  pub short : n ≤ 65535

-- Samples of all channels: two a byte, and one in the four bytes of each header; and the other way round.
abbrev pub samples_of : ℕ → ℕ → ℕ
samples_of c n = 2 * n - 7 * c

abbrev pub bytes_of : ℕ → ℕ → ℕ
bytes_of c m = (m + 7 * c) / 2

-- 1: channel number outside 1 to 8. 2: a length breaks the MS rules, or two lengths do not fit. 1 is tested before 2.
abbrev pub refused_by : ℕ → Bool → ℕ
refused_by c fit = cond (channelled c) (cond fit 0 2) 1

-- The two lengths of a decoder or an encoder: a block's, and that of its samples.
unfoldable pub ms_refusal : ℕ → ℕ → ℕ → ℕ
ms_refusal c n m = refused_by c (sized c n && eqb m (samples_of c n))

-- The two lengths of repacking: a block's, and that of the second buffer, which is equal.
unfoldable pub repack_refusal : ℕ → ℕ → ℕ → ℕ
repack_refusal c n m = refused_by c (sized c n && eqb m n)

-- 0: the call is done.
abbrev pub Taken : ℕ → ℕ → ℕ → Type 0
Taken c n m = ms_refusal c n m ≡ 0
