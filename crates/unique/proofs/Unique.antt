-- Uniqueness: two results that meet an entry point's contract are equal, and so is what they leave in the lent buffers.
-- Each theorem is over what a caller learns of the contract's own clauses, so a contract that loses one loses its theorem.
use Rattle.std.specs.Prelude.{Result, Ok, Err}
use Prim.Native.Nat.{ℕ, ◌+◌}
use mathlib.Core.Path.{◌≡◌, sym, ap, ◌∙◌}
use native.Mathlib.Omega.{arith}
use seplogic.Ra.Ura.{Ura}
use base.Logic.{SProp, ent, sep, via, id⊢, fst∗, snd∗}
use prog.Memory.{Memory}
use prog.Routine.{Routine}
use types.Logic.{Logic}
use contract.Monad.{Fun, conj, conj_l, conj_r, fact, fact_i, fact_use}
use Rattle.text.proofs.char_at as CharAt
use Rattle.text.specs.contracts.char_at as CharAtContract
use Rattle.text.proofs.first_bad as FirstBad
use Rattle.text.specs.contracts.first_bad as FirstBadContract
use Rattle.text.proofs.encode as Encode
use Rattle.text.specs.contracts.encode as EncodeContract
use Rattle.text.proofs.class_of as ClassOf
use Rattle.text.specs.contracts.class_of as ClassOfContract
use Rattle.text.proofs.word_of as WordOf
use Rattle.text.specs.contracts.word_of as WordOfContract
use Rattle.text.proofs.decimal_of as DecimalOf
use Rattle.text.specs.contracts.decimal_of as DecimalOfContract
use Rattle.text.proofs.write_decimal as WriteDecimal
use Rattle.text.specs.contracts.write_decimal as WriteDecimalContract
use Rattle.text.proofs.hex_of as HexOf
use Rattle.text.specs.contracts.hex_of as HexOfContract
use Rattle.literal.proofs.escape_at as EscapeAt
use Rattle.literal.specs.contracts.escape_at as EscapeAtContract
use Rattle.literal.proofs.unescape as Unescape
use Rattle.literal.specs.contracts.unescape as UnescapeContract
use Rattle.literal.proofs.fmt_literal as FmtLiteral
use Rattle.literal.specs.contracts.fmt_literal as FmtLiteralContract
use Rattle.token.specs.Lister.{next_of}
use Rattle.token.proofs.next_token as NextToken
use Rattle.token.specs.contracts.next_token as NextTokenContract
use Rattle.cursor.specs.Cursors.{moved}
use Rattle.cursor.specs.declared.Cursor.{Cursor}
use Rattle.cursor.specs.contracts.new as New
use Rattle.cursor.specs.contracts.next as Next
use Rattle.cursor.proofs.step_at as StepAt
use Rattle.cursor.specs.contracts.step_at as StepAtContract
use Rattle.cursor.proofs.next_two as NextTwo
use Rattle.cursor.specs.contracts.next_two as NextTwoContract
use Rattle.stream.proofs.feed_packet as FeedPacket
use Rattle.stream.specs.contracts.feed_packet as FeedPacketContract
use Rattle.stream.proofs.feed_end as FeedEnd
use Rattle.stream.specs.contracts.feed_end as FeedEndContract
use Rattle.table.proofs.check_tables as CheckTables
use Rattle.table.specs.contracts.check_tables as CheckTablesContract
use Rattle.table.specs.Tree.{Span, Tree, count, size}
use Rattle.table.specs.Record.{blank}
use Rattle.structure.specs.declared.Level.TheVariants.{Tagged}
use Rattle.structure.specs.declared.Refusal as StructureRefusal
use Rattle.structure.specs.declared.Posts.{Posts}
use Rattle.structure.specs.declared.Piece.{Piece}
use Rattle.structure.specs.Answers.{tailed}
use Rattle.structure.proofs.Wants.{piece, all_posts}
use Rattle.structure.proofs.inner.checks.predicates_end as PredicatesEnd
use Rattle.structure.specs.contracts.inner.checks.predicates_end as PredicatesEndContract
use Rattle.structure.proofs.inner.checks.check_posts as CheckPosts
use Rattle.structure.specs.contracts.inner.checks.check_posts as CheckPostsContract
use Rattle.matcher.proofs.match_line as MatchLine
use Rattle.matcher.specs.contracts.match_line as MatchLineContract
use Rattle.matcher.proofs.match_lines as MatchLines
use Rattle.matcher.specs.contracts.match_lines as MatchLinesContract
use Rattle.matcher.proofs.rule_named as RuleNamed
use Rattle.matcher.specs.contracts.rule_named as RuleNamedContract
use Rattle.replies.proofs.row_of as RowOf
use Rattle.replies.specs.contracts.row_of as RowOfContract
use Rattle.replies.proofs.tally_of as TallyOf
use Rattle.replies.specs.contracts.tally_of as TallyOfContract
use Rattle.replies.proofs.finding_of as FindingOf
use Rattle.replies.specs.contracts.finding_of as FindingOfContract
use Rattle.printer.proofs.print as Print
use Rattle.printer.specs.contracts.print as PrintContract
use Rattle.printer.proofs.number_of as PrinterNumber
use Rattle.printer.specs.contracts.number_of as PrinterNumberContract
use Rattle.reader.proofs.read as Read
use Rattle.reader.specs.contracts.read as ReadContract
use Rattle.reader.proofs.number_of as ReaderNumber
use Rattle.reader.specs.contracts.number_of as ReaderNumberContract
use Rattle.pass.proofs.pass as Pass
use Rattle.pass.specs.contracts.pass as PassContract
use Rattle.rows.proofs.refusal as Refusal
use Rattle.rows.specs.contracts.refusal as RefusalContract
use Rattle.rows.proofs.answer_line as AnswerLine
use Rattle.rows.specs.contracts.answer_line as AnswerLineContract
use Rattle.rows.proofs.answer_block as AnswerBlock
use Rattle.rows.specs.contracts.answer_block as AnswerBlockContract
use Rattle.rows.proofs.whole_lines as WholeLines
use Rattle.rows.specs.contracts.whole_lines as WholeLinesContract
use Rattle.rows.proofs.token_lines as TokenLines
use Rattle.rows.specs.contracts.token_lines as TokenLinesContract
use Rattle.show.proofs.desk as Desk
use Rattle.show.specs.contracts.desk as DeskContract
use Rattle.show.proofs.read_layout as ReadLayout
use Rattle.show.specs.contracts.read_layout as ReadLayoutContract
use Rattle.exports.proofs.read_by as ReadBy
use Rattle.exports.specs.contracts.read_by as ReadByContract
use Rattle.exports.proofs.flascjuvan_read as FlascjuvanRead
use Rattle.exports.specs.contracts.flascjuvan_read as FlascjuvanReadContract
use Rattle.exports.proofs.flascjuvan_read_edition as FlascjuvanReadEdition
use Rattle.exports.specs.contracts.flascjuvan_read_edition as FlascjuvanReadEditionContract
use Rattle.exports.proofs.print_styled as PrintStyled
use Rattle.exports.specs.contracts.print_styled as PrintStyledContract
use Rattle.exports.proofs.flascjuvan_print as FlascjuvanPrint
use Rattle.exports.specs.contracts.flascjuvan_print as FlascjuvanPrintContract
use Rattle.exports.proofs.flascjuvan_print_short as FlascjuvanPrintShort
use Rattle.exports.specs.contracts.flascjuvan_print_short as FlascjuvanPrintShortContract
use Rattle.exports.proofs.flascjuvan_next_token as FlascjuvanNextToken
use Rattle.exports.specs.contracts.flascjuvan_next_token as FlascjuvanNextTokenContract
use Rattle.exports.proofs.flascjuvan_match as FlascjuvanMatch
use Rattle.exports.specs.contracts.flascjuvan_match as FlascjuvanMatchContract
use Rattle.exports.proofs.flascjuvan_match_lines as FlascjuvanMatchLines
use Rattle.exports.specs.contracts.flascjuvan_match_lines as FlascjuvanMatchLinesContract
use Rattle.exports.proofs.flascjuvan_rule_named as FlascjuvanRuleNamed
use Rattle.exports.specs.contracts.flascjuvan_rule_named as FlascjuvanRuleNamedContract
use Rattle.exports.proofs.flascjuvan_feed as FlascjuvanFeed
use Rattle.exports.specs.contracts.flascjuvan_feed as FlascjuvanFeedContract
use Rattle.exports.proofs.flascjuvan_feed_end as FlascjuvanFeedEnd
use Rattle.exports.specs.contracts.flascjuvan_feed_end as FlascjuvanFeedEndContract
use Rattle.unique.specs.Decides.{Decides, DecidesAt}

-- ---- text

pub char_at : Decides CharAtContract.ended CharAt.Reads.Learnt
char_at κs a x y v w h k = (cc, λ i. v)

pub first_bad_lem : Decides FirstBadContract.ended FirstBad.Reads.Learnt
first_bad_lem κs a x y v w h k = (cc, λ i. v)

pub encode : Decides EncodeContract.ended Encode.Reads.Learnt
encode κs a x y v w h k =
    let o : v.1.0 ≡ w.1.0 = cc in
    (cc, λ i. (tt, (o i, tt)))

pub class_of : Decides ClassOfContract.ended ClassOf.Reads.Learnt
class_of κs a x y v w h k = (cc, λ i. v)

pub word_of : Decides WordOfContract.ended WordOf.Reads.Learnt
word_of κs a x y v w h k = (cc, λ i. v)

pub decimal_of_lem : Decides DecimalOfContract.ended DecimalOf.Reads.Learnt
decimal_of_lem κs a x y v w h k = (cc, λ i. v)

pub write_decimal : Decides WriteDecimalContract.ended WriteDecimal.Reads.Learnt
write_decimal κs a x y v w h k =
    let o : v.1.0 ≡ w.1.0 = cc in
    (cc, λ i. (tt, (o i, tt)))

pub hex_of_lem : Decides HexOfContract.ended HexOf.Reads.Learnt
hex_of_lem κs a x y v w h k = (cc, λ i. v)

-- ---- literal

pub escape_at : Decides EscapeAtContract.ended EscapeAt.Reads.Learnt
escape_at κs a x y v w h k = (cc, λ i. v)

pub unescape : Decides UnescapeContract.ended Unescape.Reads.Learnt
unescape κs a x y v w h k =
    let o : v.1.0 ≡ w.1.0 = cc in
    (cc, λ i. (tt, (o i, tt)))

pub fmt_literal_lem : Decides FmtLiteralContract.ended FmtLiteral.Reads.Learnt
fmt_literal_lem κs a x y v w h k =
    let o : v.1.1.0 ≡ w.1.1.0 = cc in
    (cc, λ i. (tt, (tt, (o i, tt))))

-- ---- token

pub next_token : Decides NextTokenContract.ended NextToken.Reads.Learnt
next_token κs a x y v w h k = (cc, λ i. v)

-- ---- cursor

-- two facts, each of one call, make a third
both : {M : Type 1} (𝓤 : Ura M) (P Q : SProp 𝓤) (φ ψ χ : Type 0) → ent 𝓤 P (fact 𝓤 φ) → ent 𝓤 Q (fact 𝓤 ψ) → (φ → ψ → χ) → ent 𝓤 (conj 𝓤 P Q) (fact 𝓤 χ)
both 𝓤 P Q φ ψ χ p q f =
    fact_use 𝓤 φ (via 𝓤 P (conj_l 𝓤 P Q) p) (λ a.
    fact_use 𝓤 ψ (via 𝓤 Q (conj_r 𝓤 P Q) q) (λ b.
    fact_i 𝓤 χ (conj 𝓤 P Q) (f a b)))

-- the first and the last of three
outer : {M : Type 1} (𝓤 : Ura M) (φ ψ χ : Type 0) → ent 𝓤 (sep 𝓤 (fact 𝓤 φ) (sep 𝓤 (fact 𝓤 ψ) (fact 𝓤 χ))) (fact 𝓤 (φ × χ))
outer 𝓤 φ ψ χ =
    let Q = sep 𝓤 (fact 𝓤 ψ) (fact 𝓤 χ) in
    fact_use 𝓤 φ (fst∗ 𝓤 (fact 𝓤 φ) Q) (λ a.
    fact_use 𝓤 χ (via 𝓤 Q (snd∗ 𝓤 (fact 𝓤 φ) Q) (snd∗ 𝓤 (fact 𝓤 ψ) (fact 𝓤 χ))) (λ b.
    fact_i 𝓤 (φ × χ) (sep 𝓤 (fact 𝓤 φ) Q) (a, b)))

module _ {M : Type 1} {𝓤 : Ura M} (𝓛 : Logic 𝓤) (mem : Memory → SProp 𝓤) (run : Routine → Fun 𝓤) where
  pub new : DecidesAt 𝓤 New.ended (New.clauses 𝓛 mem run)
  new κs a g h x y v w =
      both 𝓤 _ _ ((x.text ≡ a.0) × (x.place ≡ a.1.0)) ((y.text ≡ a.0) × (y.place ≡ a.1.0)) ((x ≡ y) × (v ≡ w)) (id⊢ 𝓤 _) (id⊢ 𝓤 _)
      (λ p q.
      let t : x.text ≡ y.text = cc in
      let n : x.place ≡ y.place = cc in
      (λ i. record { text = t i; place = n i }, λ i. v))

  pub next : DecidesAt 𝓤 Next.ended (Next.clauses 𝓛 mem run)
  next κs a g h x y v w =
      let c : Cursor = a.0.now in
      both 𝓤 _ _ ((x ≡ next_of c.text.now c.place) × (v.0 ≡ moved c)) ((y ≡ next_of c.text.now c.place) × (w.0 ≡ moved c)) ((x ≡ y) × (v ≡ w)) (outer 𝓤 _ _ _) (outer 𝓤 _ _ _)
      (λ p q.
      let o : v.0 ≡ w.0 = cc in
      (cc, λ i. (o i, tt)))

pub step_at : Decides StepAtContract.ended StepAt.Reads.Learnt
step_at κs a x y v w h k = (cc, λ i. v)

pub next_two : Decides NextTwoContract.ended NextTwo.Reads.Learnt
next_two κs a x y v w h k = (cc, λ i. v)

-- ---- stream

pub feed_packet : Decides FeedPacketContract.ended FeedPacket.Reads.Learnt
feed_packet κs a x y v w h k =
    let o : v.1.1.0 ≡ w.1.1.0 = cc in
    (cc, λ i. (tt, (tt, (o i, tt))))

pub feed_end : Decides FeedEndContract.ended FeedEnd.Reads.Learnt
feed_end κs a x y v w h k =
    let o : v.1.0 ≡ w.1.0 = cc in
    (cc, λ i. (tt, (o i, tt)))

-- ---- table

pub check_tables : Decides CheckTablesContract.ended CheckTables.Reads.Learnt
check_tables κs a x y v w h k = (cc, λ i. v)

-- ---- structure: the two loops of a term

-- tails around one tree that come to the same are the same
same_tail : (t : Tree Span) (x y : Result Posts StructureRefusal.Refusal) → tailed t x ≡ tailed t y → x ≡ y
unfolding tailed
same_tail t (Ok p) (Ok q) e =
    let h : ◌≡◌ {A = Piece} (piece p.next (count t + p.nodes) (size t)) (piece q.next (count t + q.nodes) (size t)) = cc in
    let a : p.next ≡ q.next = ap (λ (z : Piece). z.next) h in
    let b : count t + p.nodes ≡ count t + q.nodes = ap (λ (z : Piece). z.nodes) h in
    let d : p.nodes ≡ q.nodes = omega arith in
    ap (λ (i : ℕ). Ok (all_posts i p.nodes)) a ∙ ap (λ (k : ℕ). Ok (all_posts q.next k)) d
same_tail t (Ok p) (Err r) e = let z : ◌≡◌ {A = ℕ} 0 1 = cc in absurd (omega arith)
same_tail t (Err r) (Ok q) e = let z : ◌≡◌ {A = ℕ} 0 1 = cc in absurd (omega arith)
same_tail t (Err r) (Err q) e = cc

pub predicates_end_lem : Decides PredicatesEndContract.ended PredicatesEnd.Reads.Learnt
predicates_end_lem κs a x y v w h k = (cc, λ i. v)

pub check_posts : Decides CheckPostsContract.ended CheckPosts.Reads.Learnt
check_posts κs a x y v w h k = (same_tail blank x y (h.around Tagged blank ∙ sym (k.around Tagged blank)), λ i. v)

-- ---- matcher

pub match_line : Decides MatchLineContract.ended MatchLine.Reads.Learnt
match_line κs a x y v w h k = (cc, λ i. v)

pub match_lines : Decides MatchLinesContract.ended MatchLines.Reads.Learnt
match_lines κs a x y v w h k =
    let o : v.1.1.1.1.1.1.0 ≡ w.1.1.1.1.1.1.0 = cc in
    (cc, λ i. (tt, (tt, (tt, (tt, (tt, (tt, (o i, tt))))))))

pub rule_named_lem : Decides RuleNamedContract.ended RuleNamed.Reads.Learnt
rule_named_lem κs a x y v w h k = (cc, λ i. v)

-- ---- replies

pub row_of : Decides RowOfContract.ended RowOf.Reads.Learnt
row_of κs a x y v w h k = (cc, λ i. v)

pub tally_of : Decides TallyOfContract.ended TallyOf.Reads.Learnt
tally_of κs a x y v w h k = (cc, λ i. v)

pub finding_of : Decides FindingOfContract.ended FindingOf.Reads.Learnt
finding_of κs a x y v w h k = (cc, λ i. v)

-- ---- printer

pub print : Decides PrintContract.ended Print.Reads.Learnt
print κs a x y v w h k =
    let o : v.1.1.1.1.0 ≡ w.1.1.1.1.0 = cc in
    (cc, λ i. (tt, (tt, (tt, (tt, (o i, tt))))))

pub printer_number_of : Decides PrinterNumberContract.ended PrinterNumber.Reads.Learnt
printer_number_of κs a x y v w h k = (cc, λ i. v)

-- ---- reader

pub read : Decides ReadContract.ended Read.Reads.Learnt
read κs a x y v w h k =
    let o : v.1.1.1.0 ≡ w.1.1.1.0 = cc in
    let p : v.1.1.1.1.0 ≡ w.1.1.1.1.0 = cc in
    let q : v.1.1.1.1.1.0 ≡ w.1.1.1.1.1.0 = cc in
    (cc, λ i. (tt, (tt, (tt, (o i, (p i, (q i, tt)))))))

pub reader_number_of : Decides ReaderNumberContract.ended ReaderNumber.Reads.Learnt
reader_number_of κs a x y v w h k = (cc, λ i. v)

-- ---- pass

pub pass : Decides PassContract.ended Pass.Reads.Learnt
pass κs a x y v w h k =
    let o : v.1.1.1.1.1.1.0 ≡ w.1.1.1.1.1.1.0 = cc in
    let p : v.1.1.1.1.1.1.1.0 ≡ w.1.1.1.1.1.1.1.0 = cc in
    let q : v.1.1.1.1.1.1.1.1.0 ≡ w.1.1.1.1.1.1.1.1.0 = cc in
    let r : v.1.1.1.1.1.1.1.1.1.0 ≡ w.1.1.1.1.1.1.1.1.1.0 = cc in
    (cc, λ i. (tt, (tt, (tt, (tt, (tt, (tt, (o i, (p i, (q i, (r i, tt)))))))))))

-- ---- rows

pub refusal : Decides RefusalContract.ended Refusal.Reads.Learnt
refusal κs a x y v w h k =
    let o : v.1.1.0 ≡ w.1.1.0 = cc in
    (cc, λ i. (tt, (tt, (o i, tt))))

pub answer_line : Decides AnswerLineContract.ended AnswerLine.Reads.Learnt
answer_line κs a x y v w h k =
    let o : v.1.0 ≡ w.1.0 = cc in
    (cc, λ i. (tt, (o i, tt)))

pub answer_block : Decides AnswerBlockContract.ended AnswerBlock.Reads.Learnt
answer_block κs a x y v w h k =
    let o : v.1.1.1.1.1.1.0 ≡ w.1.1.1.1.1.1.0 = cc in
    (cc, λ i. (tt, (tt, (tt, (tt, (tt, (tt, (o i, tt))))))))

pub whole_lines : Decides WholeLinesContract.ended WholeLines.Reads.Learnt
whole_lines κs a x y v w h k = (cc, λ i. v)

pub token_lines_lem : Decides TokenLinesContract.ended TokenLines.Reads.Learnt
token_lines_lem κs a x y v w h k =
    let o : v.1.0 ≡ w.1.0 = cc in
    (cc, λ i. (tt, (o i, tt)))

-- ---- show

pub desk : Decides DeskContract.ended Desk.Reads.Learnt
desk κs a x y v w h k =
    let o : v.1.1.0 ≡ w.1.1.0 = cc in
    (cc, λ i. (tt, (tt, (o i, tt))))

pub read_layout : Decides ReadLayoutContract.ended ReadLayout.Reads.Learnt
read_layout κs a x y v w h k =
    let o : v.1.1.0 ≡ w.1.1.0 = cc in
    let p : v.1.1.1.0 ≡ w.1.1.1.0 = cc in
    let q : v.1.1.1.1.0 ≡ w.1.1.1.1.0 = cc in
    (cc, λ i. (tt, (tt, (o i, (p i, (q i, tt))))))

-- ---- exports

pub read_by : Decides ReadByContract.ended ReadBy.Reads.Learnt
read_by κs a x y v w h k =
    let o : v.1.1.1.0 ≡ w.1.1.1.0 = cc in
    let p : v.1.1.1.1.0 ≡ w.1.1.1.1.0 = cc in
    let q : v.1.1.1.1.1.0 ≡ w.1.1.1.1.1.0 = cc in
    let r : v.1.1.1.1.1.1.0 ≡ w.1.1.1.1.1.1.0 = cc in
    (λ i. tt, λ i. (tt, (tt, (tt, (o i, (p i, (q i, (r i, tt))))))))

pub flascjuvan_read : Decides FlascjuvanReadContract.ended FlascjuvanRead.Reads.Learnt
flascjuvan_read κs a x y v w h k =
    let o : v.1.1.0 ≡ w.1.1.0 = cc in
    let p : v.1.1.1.0 ≡ w.1.1.1.0 = cc in
    let q : v.1.1.1.1.0 ≡ w.1.1.1.1.0 = cc in
    let r : v.1.1.1.1.1.0 ≡ w.1.1.1.1.1.0 = cc in
    (λ i. tt, λ i. (tt, (tt, (o i, (p i, (q i, (r i, tt)))))))

pub flascjuvan_read_edition : Decides FlascjuvanReadEditionContract.ended FlascjuvanReadEdition.Reads.Learnt
flascjuvan_read_edition κs a x y v w h k =
    let o : v.1.1.1.0 ≡ w.1.1.1.0 = cc in
    let p : v.1.1.1.1.0 ≡ w.1.1.1.1.0 = cc in
    let q : v.1.1.1.1.1.0 ≡ w.1.1.1.1.1.0 = cc in
    let r : v.1.1.1.1.1.1.0 ≡ w.1.1.1.1.1.1.0 = cc in
    (λ i. tt, λ i. (tt, (tt, (tt, (o i, (p i, (q i, (r i, tt))))))))

pub print_styled : Decides PrintStyledContract.ended PrintStyled.Reads.Learnt
print_styled κs a x y v w h k =
    let o : v.1.1.1.1.0 ≡ w.1.1.1.1.0 = cc in
    let p : v.1.1.1.1.1.0 ≡ w.1.1.1.1.1.0 = cc in
    (λ i. tt, λ i. (tt, (tt, (tt, (tt, (o i, (p i, tt)))))))

pub flascjuvan_print : Decides FlascjuvanPrintContract.ended FlascjuvanPrint.Reads.Learnt
flascjuvan_print κs a x y v w h k =
    let o : v.1.1.1.0 ≡ w.1.1.1.0 = cc in
    let p : v.1.1.1.1.0 ≡ w.1.1.1.1.0 = cc in
    (λ i. tt, λ i. (tt, (tt, (tt, (o i, (p i, tt))))))

pub flascjuvan_print_short : Decides FlascjuvanPrintShortContract.ended FlascjuvanPrintShort.Reads.Learnt
flascjuvan_print_short κs a x y v w h k =
    let o : v.1.1.1.0 ≡ w.1.1.1.0 = cc in
    let p : v.1.1.1.1.0 ≡ w.1.1.1.1.0 = cc in
    (λ i. tt, λ i. (tt, (tt, (tt, (o i, (p i, tt))))))

pub flascjuvan_next_token : Decides FlascjuvanNextTokenContract.ended FlascjuvanNextToken.Reads.Learnt
flascjuvan_next_token κs a x y v w h k =
    let o : v.1.1.0 ≡ w.1.1.0 = cc in
    (λ i. tt, λ i. (tt, (tt, (o i, tt))))

pub flascjuvan_match : Decides FlascjuvanMatchContract.ended FlascjuvanMatch.Reads.Learnt
flascjuvan_match κs a x y v w h k =
    let o : v.1.1.1.1.1.1.0 ≡ w.1.1.1.1.1.1.0 = cc in
    (λ i. tt, λ i. (tt, (tt, (tt, (tt, (tt, (tt, (o i, tt))))))))

pub flascjuvan_match_lines : Decides FlascjuvanMatchLinesContract.ended FlascjuvanMatchLines.Reads.Learnt
flascjuvan_match_lines κs a x y v w h k =
    let o : v.1.1.1.1.1.1.0 ≡ w.1.1.1.1.1.1.0 = cc in
    let p : v.1.1.1.1.1.1.1.0 ≡ w.1.1.1.1.1.1.1.0 = cc in
    (λ i. tt, λ i. (tt, (tt, (tt, (tt, (tt, (tt, (o i, (p i, tt)))))))))

pub flascjuvan_rule_named : Decides FlascjuvanRuleNamedContract.ended FlascjuvanRuleNamed.Reads.Learnt
flascjuvan_rule_named κs a x y v w h k =
    let o : v.1.1.1.1.0 ≡ w.1.1.1.1.0 = cc in
    (λ i. tt, λ i. (tt, (tt, (tt, (tt, (o i, tt))))))

pub flascjuvan_feed : Decides FlascjuvanFeedContract.ended FlascjuvanFeed.Reads.Learnt
flascjuvan_feed κs a x y v w h k =
    let o : v.0 ≡ w.0 = cc in
    let p : v.1.1.0 ≡ w.1.1.0 = cc in
    let q : v.1.1.1.0 ≡ w.1.1.1.0 = cc in
    (λ i. tt, λ i. (o i, (tt, (p i, (q i, tt)))))

pub flascjuvan_feed_end : Decides FlascjuvanFeedEndContract.ended FlascjuvanFeedEnd.Reads.Learnt
flascjuvan_feed_end κs a x y v w h k =
    let o : v.0 ≡ w.0 = cc in
    let p : v.1.0 ≡ w.1.0 = cc in
    let q : v.1.1.0 ≡ w.1.1.0 = cc in
    (λ i. tt, λ i. (o i, (p i, (q i, tt))))
