-- The small actions inside the search for a category: looking up, limiting the size, seeing `type`.
use Rattle.std.specs.Prelude.{◌≡◌, refl, Bool, List, [], ◌∷◌, ℕ, zero, suc, ◌<◌, leb, length}
use Rattle.std.proofs.Math.Bool.{true, false}
use Rattle.std.proofs.Common.{arith}
use Rattle.aut68.specs.Procedure.Answer.{Act, done, and_then, ensure, Refusal, too_large}
use Rattle.aut68.specs.Expr.{Expr, type, prop, var, bound, const, app, abs, size, is_type}
use Rattle.aut68.specs.Lines.{Line, Lines}
use Rattle.aut68.specs.Rules.Names.{IsLine, first, later}
use Rattle.aut68.specs.Rules.Categories.{DomainAt, innermost, outside}
use Rattle.aut68.specs.Procedure.Category.{nth, the_line, made}
use Rattle.lookup.specs.LineNumbers.{line_positive}
use Rattle.lookup.specs.Answers.{Judged, is_done, is_stop, judged_map}

pub the_line_lem : {ls : Lines} {v : ℕ} {l : Line} → IsLine ls v l → (b : ℕ) → the_line ls v b ≡ done l b
unfolding the_line nth
the_line_lem first b = refl
the_line_lem (later {k} {l} {ls} {v} h) b =
    go v (line_positive h) (the_line_lem h b)
  where
    go : (v : ℕ) → 0 < v → the_line ls v b ≡ done l b → nth (k ∷ ls) v b ≡ done l b
    go zero p q = absurd (omega arith)
    go (suc v) p q = q

-- with the line of a name at hand
pub judged_line : {B : Type 0} {Q : B → Type 0} {R : Refusal → Type 0} {ls : Lines} {v : ℕ} {l : Line} (f : Line → Act ℕ B) (b : ℕ) → IsLine ls v l → Judged Q R (f l b)
    → Judged Q R (and_then f (the_line ls v b))
unfolding and_then
judged_line f b i h = rw (the_line_lem i b) h

pub nth_domain : (R : Refusal → Type 0) (sc : List Expr) (i : ℕ) → i < length sc → (b : ℕ) → Judged (λ p. DomainAt p sc i) R (nth sc i b)
unfolding nth
nth_domain R [] i h b = absurd (omega arith)
nth_domain R (p ∷ sc) zero h b = is_done innermost
nth_domain R (p ∷ sc) (suc i) h b = judged_map (λ q d. outside d) (λ r x. x) (nth_domain R sc i (omega arith) b)

module _ {P : Expr → Type 0} {R : Refusal → Type 0} where
  made_sized : (t : Bool) (e : Expr) → P e → R too_large → (b : ℕ) → Judged P R (and_then (λ _ s. done e s) (ensure t too_large b))
  unfolding ensure and_then
  made_sized true e p q b = is_done p
  made_sized false e p q b = is_stop q

  pub made_judged : (L : ℕ) (e : Expr) → P e → R too_large → (b : ℕ) → Judged P R (made L e b)
  unfolding made
  made_judged L e p q b = made_sized (leb (size e) L) e p q b

pub is_type_true : (e : Expr) → is_type e ≡ true → e ≡ type
unfolding is_type
is_type_true type q = refl
is_type_true prop q = cc
is_type_true (var v) q = cc
is_type_true (bound i) q = cc
is_type_true (const v xs) q = cc
is_type_true (app a b) q = cc
is_type_true (abs p t) q = cc
