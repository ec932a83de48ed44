-- One nibble of IMA ADPCM, decoded and encoded. A state is a predictor, a step index and a count of clipped steps.
-- All is given over a table of steps and the limits of the three numbers; `sixteen` has the limits of the 16-bit codec. Assumes nothing.
use Rattle.std.specs.Prelude.{Bool, not, cond, ◌&&◌, List, ℕ, ◌+◌, ◌-◌, ◌*◌, ◌/◌, ◌%◌, ◌≤◌, min, ltb, leb, eqb, ℤ, pos, negsuc, nat_abs, ◌+ℤ◌, ◌-ℤ◌, get_or, ◌≤ℤ◌}
use Rattle.std.specs.Int.Signed.{lt_z, le_z}
use Rattle.num.specs.Clamp.{clamp, outside}

pub record State : Type 0 where
  pub predictor : ℤ
  pub index : ℕ
  pub clipped : ℕ

abbrev pub state : ℤ → ℕ → ℕ → State
state p i n = record { predictor = p; index = i; clipped = n }

-- A zero state has a count of 0.
abbrev pub zero_state : State
zero_state = state (pos 0) 0 0

-- Two numbers in the place of the state's own. The count stays.
abbrev pub reloaded : State → ℤ → ℕ → State
reloaded st p i = state p i st.clipped

-- The same two numbers, and a count that begins again.
abbrev pub uncounted : State → State
uncounted st = state st.predictor st.index 0

-- The predictor is held in lowest..highest, and the index in 0..last. The count stops at `full`; a codec that has none stops at 0.
pub record Limits : Type 0 where
  pub lowest : ℤ
  pub highest : ℤ
  pub last : ℕ
  pub full : ℕ

abbrev pub sixteen : Limits
sixteen = record { lowest = negsuc 32767; highest = pos 32767; last = 88; full = 4294967295 }

-- A number between the predictor's limits, and a state whose predictor and index are held.
pub record In (limits : Limits) (x : ℤ) : Type 0 where
  pub above : limits.lowest ≤ℤ x
  pub below : x ≤ℤ limits.highest

pub record Good (limits : Limits) (st : State) : Type 0 where
  pub inside : In limits st.predictor
  pub held : st.index ≤ limits.last

-- First the index is lowered to 88 if above.
abbrev pub lowered : Limits → ℕ → ℕ
lowered limits i = min i limits.last

-- Let s be the step for that index in the table.
unfoldable pub step_at : Limits → List ℕ → State → ℕ
step_at limits steps st = get_or steps (lowered limits st.index) 0

-- ---- Decoding

-- For a nibble, its bits named by weight,
abbrev pub bit : ℕ → ℕ → Bool
bit weight v = eqb (v / weight % 2) 1

-- (what counts only if a bit is set, or a part taken)
abbrev pub part : Bool → ℕ → ℕ
part is x = cond is x 0

-- m = (bit 4: s) + (bit 2: floor s/2) + (bit 1: floor s/4),
unfoldable pub m : ℕ → ℕ → ℕ
m s v = part (bit 4 v) s + part (bit 2 v) (s / 2) + part (bit 1 v) (s / 4)

-- and d = m + floor s/8.
abbrev pub d : ℕ → ℕ → ℕ
d s v = m s v + s / 8

-- Bit 8 subtracts d, otherwise d is added: the exact sum.
abbrev pub sum_of : Bool → ℤ → ℕ → ℤ
sum_of negative p d = cond negative (p -ℤ pos d) (p +ℤ pos d)

abbrev pub exact_sum : ℕ → ℤ → ℕ → ℤ
exact_sum s p v = sum_of (bit 8 v) p (d s v)

-- The sum is clamped.
unfoldable pub predicted : ℤ → ℤ → ℕ → ℤ → ℕ → ℤ
predicted lowest highest s p v = clamp lowest highest (exact_sum s p v)

-- A step whose exact sum is outside the range is clipped. Clipped steps are counted, and the count stops.
abbrev pub tallied : ℕ → Bool → ℕ → ℕ
tallied full clips n = min (n + part clips 1) full

-- The index moves by -1 for magnitude (the nibble without bit 8) 0 to 3, by 2, 4, 6, 8 for magnitude 4 to 7,
abbrev pub move : ℕ → ℤ
move v = cond (ltb (v % 8) 4) (negsuc 0) (pos (2 * (v % 8) - 6))

-- and is held in 0..88.
unfoldable pub indexed : ℕ → ℕ → ℕ → ℕ
indexed last i v = nat_abs (clamp (pos 0) (pos last) (pos i +ℤ move v))

-- What a nibble makes of a state. The decoded sample is the new predictor.
unfoldable pub stepped : Limits → List ℕ → State → ℕ → State
stepped limits steps st v =
    record {
      predictor = predicted limits.lowest limits.highest (step_at limits steps st) st.predictor v;
      index = indexed limits.last (lowered limits st.index) v;
      clipped = tallied limits.full (outside limits.lowest limits.highest (exact_sum (step_at limits steps st) st.predictor v)) st.clipped;
    }

-- ---- Encoding

-- Encoding takes the sign of sample minus predictor (zero is positive),
abbrev pub sign : ℤ → ℕ
sign (pos n) = 0
sign (negsuc n) = 8

-- then takes s, floor s/2, floor s/4 greedily from the absolute difference, where a remainder equal to the part takes it.
abbrev pub takes : ℕ → ℕ → Bool
takes r x = leb x r

abbrev pub left : ℕ → ℕ → ℕ
left r x = r - part (takes r x) x

unfoldable pub greedy : ℕ → ℕ → ℕ
greedy s r =
    let r₂ = left r s in
    let r₁ = left r₂ (s / 2) in
    part (takes r s) 4 + part (takes r₂ (s / 2)) 2 + part (takes r₁ (s / 4)) 1

-- The nibble of a sample.
unfoldable pub nibble_of : ℕ → ℤ → ℤ → ℕ
nibble_of s p x = sign (x -ℤ p) + greedy s (nat_abs (x -ℤ p))

abbrev pub emitted : Limits → List ℕ → State → ℤ → ℕ
emitted limits steps st x = nibble_of (step_at limits steps st) st.predictor x

-- ---- Reach

-- Which nibbles the encoder can write from a predictor, over a step s and the predictor's two limits. It is m that must fit,
abbrev pub needed : ℕ → ℕ → ℕ
needed s v = m s v

-- and a negative nibble also needs a predictor above the lower limit,
abbrev pub can_fall : ℤ → ℤ → Bool
can_fall lowest p = lt_z lowest p

-- and is not 8 where s/8 is 0.
abbrev pub sign_alone : ℕ
sign_alone = 8

unfoldable pub reachable : ℤ → ℤ → ℕ → ℤ → ℕ → Bool
reachable lowest highest s p v =
    cond (bit 8 v)
    (le_z lowest (p -ℤ pos (needed s v)) && can_fall lowest p && not (eqb v sign_alone && eqb (s / 8) 0))
    (le_z (p +ℤ pos (needed s v)) highest)

-- ---- Width

-- The index of a state has eight bits. Of one below 256 nothing is lost.
abbrev pub narrow : State → State
narrow st = reloaded st st.predictor (st.index % 256)
