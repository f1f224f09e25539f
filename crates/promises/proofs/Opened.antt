-- What a computed example opens: the definitions of each layer, named once. To unfold one of these is to unfold all that it names.
use Rattle.text.specs.Booleans as Choice
use Rattle.text.specs.Classes as Classes
use Rattle.text.specs.Digits as Digits
use Rattle.text.specs.Scans as Scans
use Rattle.text.specs.Splice as Splice
use Rattle.text.specs.Utf8 as Utf8
use Rattle.text.specs.Words as Words
use Rattle.literal.specs.Escapes as Escapes
use Rattle.literal.specs.Literals as Literals
use Rattle.token.specs.Blanks as Blanks
use Rattle.token.specs.Lister as Lister
use Rattle.token.specs.Lists as Lists
use Rattle.token.specs.Table as Table
use Rattle.token.specs.Tokens as TokenTokens
use Rattle.table.specs.Check as Check
use Rattle.table.specs.Flat as Flat
use Rattle.table.specs.Record as Record
use Rattle.table.specs.Regroup as Regroup
use Rattle.table.specs.Tree as Tree
use Rattle.table.specs.Names as Names
use Rattle.forms.specs.Display as Display
use Rattle.forms.specs.Printing as Printing
use Rattle.printer.specs.Answers as PrinterAnswers
use Rattle.structure.specs.Answers as StructureAnswers
use Rattle.structure.specs.Structure as Structure
use Rattle.structure.specs.Tokens as StructureTokens
use Rattle.structure.specs.Values as Values
use Rattle.records.specs.Records as Records
use Rattle.build.specs.Build as Build
use Rattle.reader.specs.Read as Read
use Rattle.reader.specs.Lines as ReaderLines
use Rattle.links.specs.Ready as Ready
use Rattle.replies.specs.Replies as Replies
use Rattle.links.specs.Program as Program
use Rattle.matcher.specs.Match as Match
use Rattle.matcher.specs.Answers as MatcherAnswers
use Rattle.matcher.specs.Lines as Lines

unfoldable pub text_opened : Unit {0}
unfolding Choice.all Classes.class_of Digits.decimal_from Digits.decimal_of Digits.digits Digits.decimal Digits.decimal_put Digits.decimal_in Digits.hex_of Digits.hex_digit Digits.hexes Scans.spelled Scans.sought Splice.spent Splice.fronted Utf8.scalar Utf8.lead_of Utf8.gathered Utf8.judged Utf8.char_of Utf8.first_bad Utf8.encoded Utf8.encode_of Utf8.encode_in Words.is_word Words.begins Words.word_of
text_opened = tt

unfoldable pub literal_opened : Unit {0}
unfolding Escapes.digits_of Escapes.simple_of Escapes.pair_of Escapes.braced_of Escapes.after_of Escapes.escape_of Escapes.no_escape Escapes.bad_escape Escapes.unescaped Escapes.unescape_of Escapes.unescape_in Literals.hex_count Literals.show_of Literals.shown_by Literals.shown Literals.inside Literals.literal Literals.format_of Literals.format_in
literal_opened = tt

unfoldable pub token_opened : Unit {0}
unfolding Blanks.run Blanks.mark_of Blanks.close_of Blanks.line_blank Blanks.slash_blank Blanks.return_blank Blanks.opener_blank Blanks.blank_by Lister.next_of Lister.lister Lists.tokens_in Lists.tokens_from Lists.tokens_of Lists.filled_of TokenTokens.allowed TokenTokens.word_token TokenTokens.tag_token TokenTokens.number_token TokenTokens.minus_token TokenTokens.dots_token TokenTokens.inside_look TokenTokens.string_of TokenTokens.insens_token TokenTokens.quoted TokenTokens.char_token TokenTokens.doc_token TokenTokens.opener_token TokenTokens.one_kind TokenTokens.token_by TokenTokens.token_of TokenTokens.token_at Table.tok_of Table.kind Table.start Table.end Table.is Table.between Table.word Table.label
token_opened = tt

unfoldable pub table_opened : Unit {0}
unfolding Check.shaped Check.is_utf8 Check.is_name Check.is_label Check.good_leaf Check.good_op Check.good_at Check.good_name Check.good_root Check.good_rule Check.lowest Check.tables Check.numbered Check.verdict Check.fine Check.fine_rule Check.fine_rules Flat.numbers_of Flat.flat Flat.front Flat.rule_record Flat.nodes_from Flat.records_from Record.node_of Record.node_at Record.span_at Record.row_at Record.column Record.tree_at Record.first_at Record.head_at Record.rule_row_at Record.rule_at Record.rules_from Record.rules_of Regroup.joined Regroup.regrouped Regroup.parts Regroup.regroup Regroup.links Regroup.grouped Regroup.untagged Regroup.items Regroup.unlabelled Tree.below Tree.counts Tree.stored Tree.rule_stored Tree.rules_stored Tree.aside Tree.ends_at Tree.starts_at Names.same_text Names.other_name Names.rule_named
table_opened = tt

unfoldable pub forms_opened : Unit {0}
unfolding Display.as_postfix_operand Display.display_one Display.chain Display.spread Display.joined_by Display.display_two Printing.brackets Printing.enclosed Printing.character Printing.signed Printing.sort_text Printing.range_text Printing.slice_text Printing.tag_text Printing.printed Printing.mark_text Printing.printed_rule Printing.printed_rules
forms_opened = tt

unfoldable pub printer_opened : Unit {0}
unfolding PrinterAnswers.table_text PrinterAnswers.room_of PrinterAnswers.print_of PrinterAnswers.print_in PrinterAnswers.numbered PrinterAnswers.reported
printer_opened = tt

unfoldable pub structure_opened : Unit {0}
unfolding StructureAnswers.unread StructureAnswers.summary StructureAnswers.wanted StructureAnswers.opening_of StructureAnswers.predicates StructureAnswers.bracket_of StructureAnswers.tail_of StructureAnswers.tailed StructureAnswers.rule_summary StructureAnswers.summaries Structure.next Structure.want Structure.opened Structure.join Structure.closed Structure.prefixed Structure.postfixed Structure.in_tag Structure.from_number Structure.from_comma Structure.postfix_at Structure.slice_to Structure.slice Structure.pushed Structure.ranged Structure.leaf_at Structure.body Structure.run Structure.Run Structure.mark_at Structure.rule_of Structure.then_rules Structure.rule_from Structure.rules_up_to Structure.docs_in Structure.grammar StructureTokens.spells Values.number Values.integer Values.string Values.character Values.fault_at Values.faults_from Values.faults
structure_opened = tt

unfoldable pub records_opened : Unit {0}
unfolding Records.written Records.rule_written
records_opened = tt

unfoldable pub build_opened : Unit {0}
unfolding Build.suffix_of
build_opened = tt

unfoldable pub reader_opened : Unit {0}
unfolding Read.room_by Read.listed_of Read.judged_of Read.read_of Read.left_in Read.number_of Read.numbered ReaderLines.feeds ReaderLines.line_in
reader_opened = tt

unfoldable pub links_opened : Unit {0}
unfolding Program.act_of Program.link_for Program.mention_of Program.link_at Program.program Program.fit_at Program.known_at Program.own_at Program.named
links_opened = tt

unfoldable pub matcher_opened : Unit {0}
unfolding Match.outcome_by Match.took Match.lower Match.starts Match.one Match.full Match.rounds Match.repeat Match.enter Match.visit Ready.ready_names Ready.ready_of MatcherAnswers.reply MatcherAnswers.line_of MatcherAnswers.match_of Replies.numbered Lines.lines Lines.past Lines.rows Lines.ran_over Lines.lines_of Lines.recorded Lines.records_of
matcher_opened = tt

-- reading and printing
unfoldable pub opened : Unit {0}
unfolding text_opened literal_opened token_opened table_opened forms_opened printer_opened structure_opened records_opened build_opened reader_opened
opened = tt

-- and matching
unfoldable pub all_opened : Unit {0}
unfolding opened links_opened matcher_opened
all_opened = tt
