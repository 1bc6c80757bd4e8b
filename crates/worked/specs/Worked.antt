-- The worked cases of papers 1, 7 and 13, computed: books with omitted arguments, with paragraphs, in AUT-QE.
use Rattle.std.specs.Prelude.{◌≡◌, refl, true}
use Rattle.aut68.specs.Rules.Grammar
use Rattle.aut68.specs.Procedure.Answer
use Rattle.aut68.specs.Bytes
use Rattle.aut68.specs.Source
use Rattle.aut68.specs.Procedure.Parse
use Rattle.aut68.specs.Expr
use Rattle.aut68.specs.Substitution
use Rattle.aut68.specs.Lines
use Rattle.aut68.specs.Paragraphs
use Rattle.aut68.specs.Index
use Rattle.aut68.specs.Procedure.Lookup
use Rattle.aut68.specs.Procedure.Resolve
use Rattle.aut68.specs.Procedure.HeadStep
use Rattle.aut68.specs.Procedure.Compare
use Rattle.aut68.specs.Procedure.Category
use Rattle.aut68.specs.Procedure.CheckLine
use Rattle.aut68.specs.Procedure.CheckPiece
use Rattle.aut68.specs.Procedure.Run
use Rattle.aut68.specs.Cases.{bytes_of, sample, ends_as, holds, all_hold, same_numbers, records_as, keeps_as, keeps, all_keep, under, within, usual}
use Rattle.aut68.specs.Telling.{sums, sum_rows, sum_cells, telling_omitted, telling_paragraphs, naturals, families, telling_qe}
use Rattle.worked.specs.Omitted.{omitted_arguments}
use Rattle.worked.specs.ParagraphCases.{paragraph_cases}
use Rattle.worked.specs.ExamplesQE.{examples_qe}

computed : (all_keep omitted_arguments ≡ true) × (all_keep paragraph_cases ≡ true) × (all_hold examples_qe ≡ true)
unfolding all_hold ends_as holds same_numbers records_as keeps_as keeps all_keep under within usual sums sum_rows sum_cells telling_omitted omitted_arguments telling_paragraphs paragraph_cases naturals families telling_qe examples_qe sample bytes_of
    Answer.code_of Answer.code_in Answer.rest_in Answer.and_then Answer.when Answer.ensure Answer.aside
    Bytes.name_byte Bytes.opens_expression Bytes.same_bytes Bytes.word_type Bytes.word_pn Bytes.word_eb Bytes.word_prop Bytes.reserved Bytes.onto Bytes.lines
    Source.count_srcs
    Parse.spaces Parse.byte Parse.symbol Parse.starts Parse.word_of Parse.after_word Parse.word_ahead Parse.past_word Parse.name_fits Parse.a_name Parse.point_if_any Parse.a_used Parse.comma_or_close Parse.arguments Parse.arguments_if_any Parse.named Parse.application Parse.abstraction Parse.an_expression Parse.an_indicator Parse.a_middle Parse.prop_or_name Parse.word_at Grammar.below Parse.bytes_left Parse.line_end Parse.a_line Parse.a_sign_line Parse.signed
    Expr.size Expr.levels Expr.in_front Expr.first_cell Expr.parts Expr.cells Expr.snoc Expr.count_exprs Expr.shape Expr.is_type Expr.is_sort Expr.ends_in_type Expr.ends_in_prop Expr.over_binding Expr.first_part Expr.second_part Expr.identical
    Substitution.lift_index Substitution.lift Substitution.substitute_bound Substitution.substitute Substitution.argument_for Substitution.instantiate_variable Substitution.instantiate
    Lines.no_line Lines.line_of Lines.number_from Lines.number_in Lines.kind_cells Lines.line_cells Lines.terms_of Lines.kind_number Lines.row_of Lines.rows_from Lines.table_of
    Paragraphs.outside Paragraphs.numbers_of Paragraphs.current Paragraphs.is_open Paragraphs.opening
    Index.mentioned Index.mentioned_in_middle Index.mentioned_as_indicator Index.mentioned_by Index.insert Index.ascending Index.names_of Index.entry_of Index.index_of
    Lookup.seek Lookup.paragraph_from Lookup.paragraph_in Lookup.closed_in Lookup.number_of Lookup.unused
    Resolve.left_out Resolve.member Resolve.is_plain Resolve.place_from Resolve.answered Resolve.look_up Resolve.sought Resolve.wanted Resolve.build Resolve.resolve Resolve.resolve_middle Resolve.indicator_line Resolve.context_at
    HeadStep.under HeadStep.head_step HeadStep.left
    Compare.choose Compare.next Compare.each Compare.ends_as Compare.has_surplus Compare.compare_parts Compare.sides Compare.compare_at Compare.compare
    Category.nth Category.the_line Category.made Category.head_form Category.parts Category.to_function Category.serves_as_type Category.opens Category.second_chance Category.category_at Category.searches Category.category
    CheckLine.within_limits CheckLine.middle_within_limits CheckLine.read_line CheckLine.room CheckLine.store CheckLine.check_domain CheckLine.check_supertype CheckLine.check_written CheckLine.check_middle CheckLine.check_categories CheckLine.check_line
    CheckPiece.check_opening CheckPiece.closing CheckPiece.check_closing CheckPiece.check_piece
    Run.code_at Run.line_at Run.steps_at Run.recorded_at Run.over Run.table_end Run.terms_end Run.work_end Run.one_more Run.elsewhere Run.after_piece Run.at_end Run.check_lines Run.nothing Run.run
computed = (refl, refl, refl)

-- `suc` in the block of n is `suc(n)`, and so on
pub omitted_arguments_lem : all_keep omitted_arguments ≡ true
omitted_arguments_lem = computed.0

pub paragraph_cases_lem : all_keep paragraph_cases ≡ true
paragraph_cases_lem = computed.1

pub examples_hold : all_hold examples_qe ≡ true
examples_hold = computed.2
