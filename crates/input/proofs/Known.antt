-- What several reads, one behind the other, take from the bytes that are known. Assumes nothing.
use Rattle.std.proofs.Common.{◌≡◌, ℕ, ◌+◌, ◌≤◌, List, ◌++◌, Some, None, length, take, sym, ap, ◌∙◌, subst, append_assoc, length-take-le}
use Rattle.std.proofs.Math.Seq.{take-append-add}
use Rattle.std.proofs.lemmas.List.{take-append-le}
use Rattle.std.specs.declared.option.Option.{Option}
use Rattle.std.specs.Io.KnownBytes.{Consumes, Keeps}
use borrow.Rule.Slice.PartMut.{put_mid, post_of}

joined : (a b c : Option (List ℕ)) (bs cs : List ℕ) → Consumes a b bs → Consumes b c cs → Consumes a c (bs ++ cs)
joined None b c bs cs p q = tt
joined (Some x) None c bs cs p q = absurd p
joined (Some x) (Some y) None bs cs p q = absurd q
joined (Some x) (Some y) (Some z) bs cs p q = p ∙ ap (λ l. bs ++ l) q ∙ sym (append_assoc bs cs z)

-- A read that fails takes nothing.
pub kept : (a b c : Option (List ℕ)) (bs cs : List ℕ) → Consumes a b bs → Keeps b c → cs ≡ bs → Consumes a c cs
kept None b c bs cs p q e = tt
kept (Some x) None c bs cs p q e = absurd p
kept (Some x) (Some y) None bs cs p q e = absurd q
kept (Some x) (Some y) (Some z) bs cs p q e = p ∙ ap (λ l. bs ++ l) (sym q) ∙ ap (λ l. l ++ z) (sym e)

front : (at k n : ℕ) (xs ys : List ℕ) → at ≤ length xs → n ≤ length ys → take (at + n) (put_mid at k xs ys) ≡ take at xs ++ take n ys
front at k n xs ys within fits =
    let rest = post_of at k xs in
    ap (λ m. take (m + n) (put_mid at k xs ys)) (sym (length-take-le at xs within)) ∙ take-append-add (take at xs) (ys ++ rest) n
    ∙ ap (λ l. take at xs ++ l) (take-append-le n ys rest fits)

-- A read into the buffer from a place on, behind what was read before.
pub more : (a b c : Option (List ℕ)) (at k n : ℕ) (xs ys : List ℕ) → at ≤ length xs → n ≤ length ys → Consumes a b (take at xs) → Consumes b c (take n ys)
    → Consumes a c (take (at + n) (put_mid at k xs ys))
more a b c at k n xs ys within fits p q = subst (Consumes a c) (sym (front at k n xs ys within fits)) (joined a b c _ _ p q)
