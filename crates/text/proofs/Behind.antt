-- A text put at a place: where it has no room, where it stands, how long the buffer is then; and one text put behind another. Assumes nothing.
use mathlib.Core.Path.{◌≡◌, refl, sym, ap, ap₂, ◌∙◌}
use mathlib.Core.Bool.{true}
use mathlib.Core.List.{List, [], ◌∷◌, ◌++◌}
use Prim.Native.Nat.{ℕ, ◌+◌, ◌-◌, ◌≤◌, ◌<◌}
use native.Mathlib.Nat.{add-zero}
use native.Mathlib.Omega.{arith}
use lib.ListN.{length, length-append, take-append-drop}
use lib.Seq.{paste}
use borrow.Author.Tests.{le-leb, lt-leb}
use Rattle.std.proofs.lemmas.List.Edits.{paste_all, length-paste, paste-paste}
use Rattle.text.specs.declared.Sheet.{Sheet}
use Rattle.text.specs.Text.{put, has_room, put_in, place_after, Stands, Puts}

-- ---- where there is no room. No text at all leaves all as it was, where there is room for it too

pub not-put : (out : List ℕ) (at : ℕ) (s : List ℕ) → length out < at + length s → (at ≡ place_after out at s) × (out ≡ put_in out at s)
unfolding put_in place_after
not-put out at [] h =
    let enough = le-leb 0 (length out - at) (omega arith) in
    (rw enough (sym (add-zero at)), rw enough (sym (rw (add-zero at) (take-append-drop at out))))
not-put out at (x ∷ s) h =
    let none = lt-leb (length (x ∷ s)) (length out - at) (omega arith) in
    (rw none refl, rw none refl)

-- ---- where there is room

module _ (out : List ℕ) (at : ℕ) (s : List ℕ) (h : length s ≤ length out - at) where
  it-fits : has_room out at s ≡ true
  it-fits = le-leb (length s) (length out - at) h

  pub put_in-put : put_in out at s ≡ put out at s
  unfolding put_in
  put_in-put = rw it-fits refl

  pub place_after-is : place_after out at s ≡ at + length s
  unfolding place_after
  place_after-is = rw it-fits refl

  -- what stands there was put
  pub was-put : (place : ℕ) (buffer : List ℕ) → Stands out at s place buffer → (place ≡ place_after out at s) × (buffer ≡ put_in out at s)
  was-put place buffer (place_is, buffer-is) = (place_is ∙ sym place_after-is, buffer-is ∙ sym put_in-put)

module _ (out : List ℕ) (at : ℕ) (s : List ℕ) (h : at + length s ≤ length out) where
  is-paste : paste out at s (length s) ≡ put out at s
  is-paste = paste_all out at s (length s) refl

  pub put-length : length (put out at s) ≡ length out
  put-length = ap length (sym is-paste) ∙ length-paste out at s (length s) h (omega arith)

  -- another behind it is the two put as one
  pub put-put : (t : List ℕ) → put (put out at s) (at + length s) t ≡ put out at (s ++ t)
  put-put t =
      let both : length s + length t ≡ length (s ++ t) = sym (length-append s t) in
      sym (paste_all (put out at s) (at + length s) t (length t) refl)
      ∙ ap (λ (buffer : List ℕ). paste buffer (at + length s) t (length t)) (sym is-paste)
      ∙ paste-paste out at s t (length s) (length t) refl refl (omega arith)
      ∙ ap (paste out at (s ++ t)) both
      ∙ paste_all out at (s ++ t) (length (s ++ t)) refl

-- ---- one text behind another, as calls put them

module _ (out : List ℕ) (at : ℕ) where
  pub stands-none : Stands out at [] at out
  stands-none = (sym (add-zero at), sym (rw (add-zero at) (take-append-drop at out)))

  pub stands-more : (s t : List ℕ) (place p : ℕ) (buffer b : List ℕ) → at + length (s ++ t) ≤ length out → Stands out at s place buffer → p ≡ place_after buffer place t → b ≡ put_in buffer place t → Stands out at (s ++ t) p b
  stands-more s t place p buffer b h (place_is, buffer-is) p-is b-is =
      let both = length-append s t in
      let room : at + length s ≤ length out = omega (arith, h, both) in
      let size = ap length buffer-is ∙ put-length out at s room in
      let here : length t ≤ length buffer - place = omega (arith, h, both, size, place_is) in (
        p-is ∙ place_after-is buffer place t here ∙ omega (arith, both, place_is),
        b-is ∙ put_in-put buffer place t here ∙ ap₂ (λ (xs : List ℕ) (n : ℕ). put xs n t) buffer-is place_is ∙ put-put out at s room t,
      )

  -- the same on a sheet
  pub stands-next : (s t : List ℕ) (old new : Sheet) → at + length (s ++ t) ≤ length out → Stands out at s old.at old.out.now → Puts t old new → Stands out at (s ++ t) new.at new.out.now
  stands-next s t old new h stands (same, p-is, b-is) = stands-more s t old.at new.at old.out.now new.out.now h stands p-is b-is
