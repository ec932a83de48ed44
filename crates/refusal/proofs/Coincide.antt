-- Two results that a call allows for one input coincide, if what it hands back is looked at through a view that loses nothing. Assumes nothing.
use mathlib.Core.Path.{◌≡◌, sym, ap, ap₂, ◌∙◌}
use Rattle.std.specs.Prelude.{Result, Ok, Err}
use Rattle.num.specs.Outcome.{Outcome, Faithful}
use Rattle.refusal.specs.declared.Refusal.{Refusal}
use Rattle.refusal.specs.declared.Refused.{Refused}
use Rattle.refusal.specs.Refusal.{handed, answered}
use Rattle.refusal.proofs.Numbers.{number-not-0, number-once}

module _ {X Back Buffer : Type 0} (view : X → Back) (faithful : Faithful view) (allowed : Outcome Back Buffer) where
  abbrev refused : Refusal → X → Refused X
  refused r x = record { refusal = r; given = x }

  pub handed-coincide : (r s : Result X (Refused X)) (ys zs : Buffer)
      → handed view r ys ≡ allowed → handed view s zs ≡ allowed → (r ≡ s) × (ys ≡ zs)
  handed-coincide (Ok x) (Ok y) ys zs is is' =
      let same = is ∙ sym is' in
      (ap Ok (faithful x y (ap (λ o. o.back) same)), ap (λ o. o.buffer) same)
  handed-coincide (Ok x) (Err f) ys zs is is' = absurd (number-not-0 f.refusal (sym (ap (λ o. o.number) (is ∙ sym is'))))
  handed-coincide (Err e) (Ok y) ys zs is is' = absurd (number-not-0 e.refusal (ap (λ o. o.number) (is ∙ sym is')))
  handed-coincide (Err e) (Err f) ys zs is is' =
      let same = is ∙ sym is' in
      (ap Err (ap₂ refused (number-once e.refusal f.refusal (ap (λ o. o.number) same)) (faithful e.given f.given (ap (λ o. o.back) same))), ap (λ o. o.buffer) same)

  pub answered-coincide : (none : Back) (r s : Result X Refusal) (ys zs : Buffer)
      → answered view none r ys ≡ allowed → answered view none s zs ≡ allowed → (r ≡ s) × (ys ≡ zs)
  answered-coincide none (Ok x) (Ok y) ys zs is is' =
      let same = is ∙ sym is' in
      (ap Ok (faithful x y (ap (λ o. o.back) same)), ap (λ o. o.buffer) same)
  answered-coincide none (Ok x) (Err f) ys zs is is' = absurd (number-not-0 f (sym (ap (λ o. o.number) (is ∙ sym is'))))
  answered-coincide none (Err e) (Ok y) ys zs is is' = absurd (number-not-0 e (ap (λ o. o.number) (is ∙ sym is')))
  answered-coincide none (Err e) (Err f) ys zs is is' =
      let same = is ∙ sym is' in
      (ap Err (number-once e f (ap (λ o. o.number) same)), ap (λ o. o.buffer) same)
