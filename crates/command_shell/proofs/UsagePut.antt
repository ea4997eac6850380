-- The forms of a program's commands, put piece by piece.
use Rattle.std.proofs.Common.{◌≡◌, ℕ, List, [], ◌∷◌, ◌++◌, arith, length, map, refl, Result, IsErr, sym, ap, subst, ◌∙◌, append_assoc, append-nil}
use Rattle.std.proofs.lemmas.List.Folds.{flat_map-map}
use Rattle.std.specs.Borrow.{Bor}
use Rattle.std.specs.List.{flat_map}
use Rattle.std.specs.Prelude.{codes}
use Rattle.muen_outside.specs.States.{SinkState}
use Rattle.muen_outside.specs.Puts.{Appended, Failed, Puts}
use Rattle.muen_outside.proofs.Puts.{failed_as, failed_first, failed_then, puts_exit, puts_then}
use Rattle.command_shell.specs.Forms.{form_shown, form_text, other_forms_text, parameter_text, usage_text}
use Rattle.command_shell.specs.Texts.{error_line}
use Rattle.command_shell.specs.declared.form.Form.{Form}

pub puts_as : {E : Type 0} (a b : List ℕ) (s u : SinkState) (r : Result (Unit {0}) E) → a ≡ b → Puts a s u r → Puts b s u r
puts_as {E} a b s u r e q = subst (λ x. Puts {E = E} x s u r) e q

pub appended_as : (a b : List ℕ) (s u : SinkState) → a ≡ b → Appended a s u → Appended b s u
appended_as a b s u e q = subst (λ x. Appended x s u) e q

-- ---- a form

-- its word, behind a text, and then its parameters
form_is : (before word : List ℕ) (ps : List (Bor (List ℕ))) → (before ++ (word ++ [])) ++ flat_map (λ p. parameter_text p.now) ps ≡ before ++ (word ++ flat_map parameter_text (map (λ p. p.now) ps))
form_is before word ps =
    ap (λ w. (before ++ w) ++ flat_map (λ p. parameter_text p.now) ps) (append-nil word)
    ∙ append_assoc before word (flat_map (λ p. parameter_text p.now) ps)
    ∙ ap (λ x. before ++ (word ++ x)) (sym (flat_map-map parameter_text (λ p. p.now) ps))

pub form_put : {E : Type 0} (before word : List ℕ) (ps : List (Bor (List ℕ))) (s t u : SinkState) (r : Result (Unit {0}) E)
    → Appended (before ++ (word ++ [])) s t → Puts (flat_map (λ p. parameter_text p.now) ps) t u r → Puts (before ++ (word ++ flat_map parameter_text (map (λ p. p.now) ps))) s u r
form_put before word ps s t u r p q = puts_as _ _ s u r (form_is before word ps) (puts_then (before ++ (word ++ [])) (flat_map (λ p. parameter_text p.now) ps) s t u r p q)

pub form_failed : {E : Type 0} (before word : List ℕ) (ps : List (Bor (List ℕ))) (s u : SinkState) (r : Result (Unit {0}) E) → IsErr r
    → Failed (before ++ (word ++ [])) s u → Puts (before ++ (word ++ flat_map parameter_text (map (λ p. p.now) ps))) s u r
form_failed before word ps s u r is q =
    puts_exit _ s u r is (failed_as _ _ s u (form_is before word ps) (failed_first (before ++ (word ++ [])) (flat_map (λ p. parameter_text p.now) ps) s u q))

-- ---- all forms

others_are : {C : Type 0} (forms : List (Form C)) → flat_map (λ f. codes ", " ++ form_text (form_shown f)) forms ≡ other_forms_text (map form_shown forms)
others_are forms = sym (flat_map-map (λ f. codes ", " ++ form_text f) form_shown forms)

usage_is : {C : Type 0} (first : Form C) (others : List (Form C))
    → (codes "usage: " ++ form_text (form_shown first)) ++ flat_map (λ f. codes ", " ++ form_text (form_shown f)) others ≡ usage_text (map form_shown (first ∷ others))
usage_is first others =
    append_assoc (codes "usage: ") (form_text (form_shown first)) (flat_map (λ f. codes ", " ++ form_text (form_shown f)) others)
    ∙ ap (λ x. codes "usage: " ++ (form_text (form_shown first) ++ x)) (others_are others)

module _ {C E : Type 0} (forms : List (Form C)) (s u : SinkState) (r : Result (Unit {0}) E) where
  pub no_forms_put : length forms ≡ 0 → Puts (codes "usage: " ++ []) s u r → Puts (usage_text (map form_shown forms)) s u r
  no_forms_put none q = puts_as _ _ s u r (empty forms none) q
    where
      empty : (fs : List (Form C)) → length fs ≡ 0 → codes "usage: " ++ [] ≡ usage_text (map form_shown fs)
      empty [] h = refl
      empty (f ∷ fs) h = absurd (omega (arith, h))

  module _ (first : Form C) (others : List (Form C)) (is : forms ≡ first ∷ others) where
    all_are : (codes "usage: " ++ form_text (form_shown first)) ++ flat_map (λ f. codes ", " ++ form_text (form_shown f)) others ≡ usage_text (map form_shown forms)
    all_are = usage_is first others ∙ ap (λ fs. usage_text (map form_shown fs)) (sym is)

    pub forms_put : (t : SinkState) → Appended (codes "usage: " ++ form_text (form_shown first)) s t → Puts (flat_map (λ f. codes ", " ++ form_text (form_shown f)) others) t u r
        → Puts (usage_text (map form_shown forms)) s u r
    forms_put t p q =
        puts_as _ _ s u r all_are (puts_then (codes "usage: " ++ form_text (form_shown first)) (flat_map (λ f. codes ", " ++ form_text (form_shown f)) others) s t u r p q)

    pub forms_failed : IsErr r → Failed (codes "usage: " ++ form_text (form_shown first)) s u → Puts (usage_text (map form_shown forms)) s u r
    forms_failed err q =
        puts_exit _ s u r err
        (failed_as _ _ s u all_are (failed_first (codes "usage: " ++ form_text (form_shown first)) (flat_map (λ f. codes ", " ++ form_text (form_shown f)) others) s u q))

-- ---- the line

line_is : (program usage : List ℕ) → (program ++ (codes ": " ++ [])) ++ (usage ++ (codes "\n" ++ [])) ≡ error_line program usage
line_is program usage = append_assoc program (codes ": ") (usage ++ codes "\n")

pub line_put : {E : Type 0} (program usage : List ℕ) (s t v u : SinkState) (r : Result (Unit {0}) E)
    → Appended (program ++ (codes ": " ++ [])) s t → Appended usage t v → Puts (codes "\n" ++ []) v u r → Puts (error_line program usage) s u r
line_put program usage s t v u r p q end =
    puts_as _ _ s u r (line_is program usage) (puts_then (program ++ (codes ": " ++ [])) (usage ++ codes "\n") s t u r p (puts_then usage (codes "\n") t v u r q end))

pub line_failed_first : {E : Type 0} (program usage : List ℕ) (s u : SinkState) (r : Result (Unit {0}) E) → IsErr r
    → Failed (program ++ (codes ": " ++ [])) s u → Puts (error_line program usage) s u r
line_failed_first program usage s u r is q =
    puts_exit _ s u r is (failed_as _ _ s u (line_is program usage) (failed_first (program ++ (codes ": " ++ [])) (usage ++ codes "\n") s u q))

pub line_failed_then : {E : Type 0} (program usage : List ℕ) (s t u : SinkState) (r : Result (Unit {0}) E) → IsErr r
    → Appended (program ++ (codes ": " ++ [])) s t → Failed usage t u → Puts (error_line program usage) s u r
line_failed_then program usage s t u r is p q =
    puts_exit _ s u r is (failed_as _ _ s u (line_is program usage) (failed_then (program ++ (codes ": " ++ [])) usage (codes "\n") s t u p q))
