-- The text of the record, part after part.
use Rattle.std.proofs.Common.{◌≡◌, ℕ, ◌+◌, ◌*◌, ◌%◌, true, false, List, [], ◌∷◌, ◌++◌, map, reverse, refl, sym, ap, ◌∙◌, add-one, append_assoc, append-nil}
use Rattle.std.specs.Prelude.{◌==◌, codes, decimal, if◌then◌else◌}
use Rattle.std.specs.Fmt.{digits}
use Rattle.std.specs.List.{flat_map}
use Rattle.std.proofs.lemmas.Grind.{flat_map-append}
use Rattle.muen_num.specs.Range.{numbers_below}
use Rattle.generated_system.specs.RecordText.{record_end_line_text, irq_line_text, lines_in, generated_order_line, orders_in, generated_port_line, record_lines, record_text, with_line_feed}

-- parts that are appended, in the words of a line
front : (old p a d v n : List ℕ) → ((((old ++ p) ++ a) ++ d) ++ v) ++ n ≡ old ++ (p ++ (a ++ (d ++ (v ++ n))))
front old p a d v n = simp append_assoc

back : (a d v n : List ℕ) → (a ++ (d ++ (v ++ []))) ++ n ≡ a ++ (d ++ (v ++ n))
back a d v n = simp (append_assoc, append-nil)

pub port_text : (old : List ℕ) (tick value : ℕ)
    → ((((old ++ codes "port ") ++ decimal tick) ++ codes " dev 16 ") ++ decimal value) ++ codes "\n" ≡ old ++ with_line_feed (generated_port_line tick value)
port_text old tick value =
    front old (codes "port ") (decimal tick) (codes " dev 16 ") (decimal value) (codes "\n")
    ∙ ap (λ l. old ++ (codes "port " ++ l)) (sym (back (decimal tick) (codes " dev 16 ") (decimal value) (codes "\n")))

pub irq_text : (old : List ℕ) (tick : ℕ) → ((old ++ codes "irq ") ++ decimal tick) ++ codes " dev t\n" ≡ old ++ with_line_feed (irq_line_text tick)
irq_text old tick = simp append_assoc

pub order_text : (old : List ℕ) (tick cpus : ℕ) (behind : List ℕ) → behind ≡ flat_map (λ word. 32 ∷ word) (map decimal (reverse (numbers_below cpus)))
    → (((old ++ codes "order ") ++ decimal tick) ++ behind) ++ codes "\n" ≡ old ++ with_line_feed (generated_order_line cpus tick)
order_text old tick cpus behind is = rw is (simp append_assoc)

-- ---- so many CPUs, from the last to the first, each behind a blank

abbrev pub behind_blanks : ℕ → List ℕ
behind_blanks cpus = flat_map (λ word. 32 ∷ word) (map decimal (reverse (numbers_below cpus)))

pub order_of_one : behind_blanks 1 ≡ codes " 0"
unfolding digits
order_of_one = refl

pub order_of_two : behind_blanks 2 ≡ codes " 1 0"
unfolding digits
order_of_two = refl

pub order_of_three : behind_blanks 3 ≡ codes " 2 1 0"
unfolding digits
order_of_three = refl

pub order_of_four : behind_blanks 4 ≡ codes " 3 2 1 0"
unfolding digits
order_of_four = refl

-- ---- lines

-- where there is an order, and where there is none
pub some_order : (old new : List ℕ) (cpus j : ℕ) → (j % 10 == 0) ≡ true → new ≡ old ++ with_line_feed (generated_order_line cpus (100 * j)) → new ≡ old ++ flat_map with_line_feed (orders_in cpus j)
some_order old new cpus j h is = is ∙ ap (λ l. old ++ l) (sym (append-nil (with_line_feed (generated_order_line cpus (100 * j))))) ∙ ap (λ b. old ++ flat_map with_line_feed (if b then generated_order_line cpus (100 * j) ∷ [] else [])) (sym h)

pub no_order : (old : List ℕ) (cpus j : ℕ) → (j % 10 == 0) ≡ false → old ≡ old ++ flat_map with_line_feed (orders_in cpus j)
no_order old cpus j h = sym (append-nil old) ∙ ap (λ b. old ++ flat_map with_line_feed (if b then generated_order_line cpus (100 * j) ∷ [] else [])) (sym h)

pub lines_text : (old port irq orders : List ℕ) → ((old ++ port) ++ irq) ++ orders ≡ old ++ (port ++ (irq ++ orders))
lines_text old port irq orders = simp append_assoc

pub one_more : (n j : ℕ) → flat_map with_line_feed (flat_map (lines_in n) (numbers_below j)) ++ flat_map with_line_feed (lines_in n j) ≡ flat_map with_line_feed (flat_map (lines_in n) (numbers_below (j + 1)))
one_more n j =
    rw (add-one, flat_map-append (lines_in n) (numbers_below j) (j ∷ []), append-nil (lines_in n j), flat_map-append with_line_feed (flat_map (lines_in n) (numbers_below j)) (lines_in n j)) refl

pub all_text : (n : ℕ) → flat_map with_line_feed (flat_map (lines_in n) (numbers_below 200)) ++ codes "end 20000\n" ≡ record_text n
unfolding record_text record_lines
all_text n = sym (flat_map-append with_line_feed (flat_map (lines_in n) (numbers_below 200)) (record_end_line_text ∷ []))

pub ruleset orders = (order_text, some_order, no_order)

pub ruleset whole = (one_more, all_text)
