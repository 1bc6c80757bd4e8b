-- The outcomes of the cases of specs/Outcomes.antt, each table computed in one theorem.
use Rattle.std.specs.Prelude.{◌≡◌, refl, true}
use mathlib.Core.List.{◌++◌}
use Rattle.aut68.specs.Language.{aut68}
use Rattle.aut68.specs.Stores.{lending}
use Rattle.aut68.specs.Rules.Grammar
use Rattle.aut68.specs.Procedure.Answer
use Rattle.aut68.specs.Bytes
use Rattle.aut68.specs.Source
use Rattle.aut68.specs.Procedure.Parse
use Rattle.aut68.specs.Expr
use Rattle.aut68.specs.Substitution
use Rattle.aut68.specs.Lines
use Rattle.aut68.specs.Paragraphs
use Rattle.aut68.specs.Index
use Rattle.aut68.specs.Pages
use Rattle.aut68.specs.Procedure.Lookup
use Rattle.aut68.specs.Procedure.Resolve
use Rattle.aut68.specs.Procedure.HeadStep
use Rattle.aut68.specs.Procedure.Compare
use Rattle.aut68.specs.Procedure.PartsFirst
use Rattle.aut68.specs.Procedure.Category
use Rattle.aut68.specs.Procedure.CheckLine
use Rattle.aut68.specs.Procedure.CheckPiece
use Rattle.aut68.specs.Procedure.Run
use Rattle.aut68.specs.Cases.{bytes_of, sample, ends_as, holds, all_hold, same_numbers, records_as, keeps_as, keeps, all_keep, under, within, usual}
use Rattle.aut68.specs.Telling.{sums, sum_rows, sum_cells, telling_omitted, telling_paragraphs, naturals, families, telling_qe}
use Rattle.aut68.specs.Indexed.{sample_rows, sample_cells, sample_index, with_index, index_cells}
use Rattle.aut68.specs.ClosedBlocks.{blocks, closed_blocks}
use Rattle.aut68.specs.ComparisonCases.{compared_lines, around, answers_as, compares_as, all_compare, pair, compared_pairs}
use Rattle.aut68.specs.Printed.{printed, prints_as, all_print, printed_pages}
use Rattle.aut68.specs.Outcomes.{table_rows, longer, four_outcomes, self_named, swapped, renumbered, steps_remain, misreadings, equality, pairs, repeated, nested, deep, procedure_order, numbers, number_lines}

computed : (all_hold (table_rows ++ four_outcomes) ≡ true) × (all_hold (misreadings ++ procedure_order ++ telling_qe) ≡ true) × (all_keep (telling_omitted ++ telling_paragraphs) ≡ true) × (all_keep index_cells ≡ true) × (all_hold closed_blocks ≡ true) × ((Run.recorded_at (Run.run aut68 numbers (lending 0 16 27 8 2048 16384))).recorded ≡ number_lines) × (all_compare compared_lines compared_pairs ≡ true)
unfolding compared_lines around answers_as compares_as all_compare pair compared_pairs numbers number_lines all_hold ends_as holds same_numbers records_as keeps_as keeps all_keep under within usual sums sum_rows sum_cells telling_omitted sample_rows sample_cells sample_index with_index index_cells blocks closed_blocks telling_paragraphs naturals families telling_qe sample longer table_rows four_outcomes self_named swapped renumbered steps_remain misreadings equality pairs repeated nested deep procedure_order bytes_of
    Answer.code_of Answer.code_in Answer.rest_in Answer.and_then Answer.when Answer.ensure Answer.aside
    Bytes.name_byte Bytes.opens_expression Bytes.same_bytes Bytes.word_type Bytes.word_pn Bytes.word_eb Bytes.word_prop Bytes.reserved Bytes.onto Bytes.lines
    Source.count_srcs
    Parse.spaces Parse.byte Parse.symbol Parse.starts Parse.word_of Parse.after_word Parse.word_ahead Parse.past_word Parse.name_fits Parse.a_name Parse.point_if_any Parse.a_used Parse.comma_or_close Parse.arguments Parse.arguments_if_any Parse.named Parse.application Parse.abstraction Parse.an_expression Parse.an_indicator Parse.a_middle Parse.prop_or_name Parse.word_at Grammar.below Parse.bytes_left Parse.line_end Parse.a_line Parse.a_sign_line Parse.signed
    Expr.size Expr.levels Expr.in_front Expr.first_cell Expr.parts Expr.cells Expr.snoc Expr.count_exprs Expr.shape Expr.is_type Expr.is_sort Expr.ends_in_type Expr.ends_in_prop Expr.over_binding Expr.first_part Expr.second_part Expr.identical
    Substitution.lift_index Substitution.lift Substitution.substitute_bound Substitution.substitute Substitution.argument_for Substitution.instantiate_variable Substitution.instantiate
    Lines.no_line Lines.line_of Lines.number_from Lines.number_in Lines.kind_cells Lines.line_cells Lines.terms_of Lines.kind_number Lines.row_of Lines.rows_from Lines.table_of
    Paragraphs.outside Paragraphs.numbers_of Paragraphs.current Paragraphs.is_open Paragraphs.opening
    Index.mentioned Index.mentioned_in_middle Index.mentioned_as_indicator Index.mentioned_by Index.insert Index.ascending Index.names_of Index.entry_of Index.index_of
    Lookup.seek Lookup.paragraph_from Lookup.paragraph_in Lookup.closed_in Lookup.number_of Lookup.unused
    Resolve.left_out Resolve.member Resolve.is_plain Resolve.place_from Resolve.answered Resolve.look_up Resolve.sought Resolve.wanted Resolve.build Resolve.resolve Resolve.resolve_middle Resolve.indicator_line Resolve.context_at
    HeadStep.under HeadStep.head_step HeadStep.left
    Compare.choose Compare.next Compare.each Compare.ends_as Compare.has_surplus Compare.compare_parts Compare.sides Compare.compare_at Compare.compare
    PartsFirst.differs PartsFirst.unless_equal PartsFirst.step_to PartsFirst.pass PartsFirst.passes PartsFirst.sides_first PartsFirst.parts_first_at PartsFirst.parts_first
    Category.nth Category.the_line Category.made Category.head_form Category.parts Category.to_function Category.serves_as_type Category.opens Category.second_chance Category.category_at Category.searches Category.category
    CheckLine.within_limits CheckLine.middle_within_limits CheckLine.read_line CheckLine.room CheckLine.store CheckLine.check_domain CheckLine.check_supertype CheckLine.check_written CheckLine.check_middle CheckLine.check_categories CheckLine.check_line
    CheckPiece.check_opening CheckPiece.closing CheckPiece.check_closing CheckPiece.check_piece
    Run.code_at Run.line_at Run.steps_at Run.recorded_at Run.over Run.table_end Run.terms_end Run.work_end Run.one_more Run.elsewhere Run.after_piece Run.at_end Run.check_lines Run.nothing Run.run
computed = (refl, refl, refl, refl, refl, refl, refl)

pub outcomes : all_hold (table_rows ++ four_outcomes) ≡ true
outcomes = computed.0

pub misreadings_excluded : all_hold (misreadings ++ procedure_order ++ telling_qe) ≡ true
misreadings_excluded = computed.1

pub misread_cells_excluded : all_keep (telling_omitted ++ telling_paragraphs) ≡ true
misread_cells_excluded = computed.2

-- the index of a book, line after line: a count and the lines that the completed line names
pub index_cells_lem : all_keep index_cells ≡ true
index_cells_lem = computed.3

pub closed_blocks_lem : all_hold closed_blocks ≡ true
closed_blocks_lem = computed.4

pub numbers_recorded : (Run.recorded_at (Run.run aut68 numbers (lending 0 16 27 8 2048 16384))).recorded ≡ number_lines
numbers_recorded = computed.5

-- code and steps of both comparisons
pub comparison_cases : all_compare compared_lines compared_pairs ≡ true
comparison_cases = computed.6

-- the pages of books, byte for byte, and what is read back from them
pub pages_printed : all_print printed_pages ≡ true
unfolding all_print prints_as printed printed_pages same_numbers sample bytes_of
    Bytes.onto Bytes.lines Bytes.joined
    Pages.without Pages.text_of Pages.digit Pages.numbered Pages.blank Pages.row Pages.rows Pages.row_count Pages.text_rows Pages.begins_signed Pages.pages_from Pages.pages Pages.text_in Pages.at_number Pages.ahead Pages.lines_in Pages.read_back
pages_printed = refl
