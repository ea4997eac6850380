-- The lines of a source, one by one.
use Rattle.std.proofs.Common.{◌≡◌, ℕ, ◌+◌, List, [], ◌∷◌, ◌++◌, Result, Ok, Err, refl, ap, ◌∙◌, sym, append_assoc, append-nil, inl, inr}
use Rattle.std.specs.Prelude.{◌⊎◌}
use Rattle.text_words.specs.Steps.{◌>>=◌, mapped}
use Rattle.asm_text.specs.Layout.{Layout, LayoutState, layout_from, source_line_at, with_line}
use Rattle.asm_text.specs.declared.fault.SourceFault.{SourceFault}
use Rattle.asm_text.specs.declared.statement.Placed.{Placed}

-- lines behind others
abbrev pub behind : List Placed → Result Layout SourceFault → Result Layout SourceFault
behind front r = mapped (λ l. record { lines = front ++ l.lines; names = l.names }) r

behind_more : (front : List Placed) (line : Placed) (r : Result Layout SourceFault) → behind front (r >>= λ more. Ok (with_line line more)) ≡ behind (front ++ line ∷ []) r
behind_more front line (Ok l) = ap (λ lines. Ok (record { lines = lines; names = l.names })) (sym (append_assoc front (line ∷ []) l.lines))
behind_more front line (Err e) = refl

pub line_read : (front : List Placed) (s next : LayoutState) (n : ℕ) (text : List ℕ) (texts : List (List ℕ)) (line : Placed) → source_line_at s n text ≡ Ok (line, next)
    → behind front (layout_from s n (text ∷ texts)) ≡ behind (front ++ line ∷ []) (layout_from next (n + 1) texts)
unfolding layout_from
line_read front s next n text texts line h =
    ap (λ r. behind front (◌>>=◌ {B = Layout} r (λ p. layout_from p.1 (n + 1) texts >>= λ more. Ok (with_line p.0 more)))) h ∙ behind_more front line (layout_from next (n + 1) texts)

pub line_refused : (front : List Placed) (s : LayoutState) (n : ℕ) (text : List ℕ) (texts : List (List ℕ)) (fault : SourceFault) → source_line_at s n text ≡ Err fault
    → behind front (layout_from s n (text ∷ texts)) ≡ Err fault
unfolding layout_from
line_refused front s n text texts fault h =
    ap (λ r. behind front (◌>>=◌ {B = Layout} r (λ p. layout_from p.1 (n + 1) texts >>= λ more. Ok (with_line p.0 more)))) h

pub no_more_lines : (front : List Placed) (s : LayoutState) (n : ℕ) → behind front (layout_from s n []) ≡ Ok (record { lines = front; names = s.names })
unfolding layout_from
no_more_lines front s n = ap (λ lines. Ok (record { lines = lines; names = s.names })) (append-nil front)

-- what a call for a line answered is what the whole call answers
pub refused_here : (front : List Placed) (s : LayoutState) (n : ℕ) (text : List ℕ) (texts : List (List ℕ)) (fault none : SourceFault) (whole : Result Layout SourceFault)
    → (fault ≡ none) ⊎ (source_line_at s n text ≡ Err fault) → behind front (layout_from s n (text ∷ texts)) ≡ whole → (fault ≡ none) ⊎ (whole ≡ Err fault)
refused_here front s n text texts fault none whole (inl refused) same = inl refused
refused_here front s n text texts fault none whole (inr refused) same = inr (sym same ∙ line_refused front s n text texts fault refused)
