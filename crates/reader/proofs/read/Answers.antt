-- The returns are three laws of Answers: too long (`read_long`), no UTF-8 (`read_bad`), and what `read_listed` answers (`read_good`).
-- Each gives all five promises at once. With which arrays `read_listed` begins makes no difference: it promises the same for any.
use Rattle.reader.proofs.Answers.{read_long, read_bad, read_good}
use Rattle.reader.proofs.read.Goals as goal

pub returns-then-text-gt-TEXT : goal.returns-then-text-gt-TEXT
returns-then-text-gt-TEXT c =
    let m = read_long _ _ _ _ _ _ c.if-text-gt-TEXT.true _ c.refused.ensures in
    record {
      answer = m.answer;
      report = m.report;
      nodes = m.left.nodes;
      rules = m.left.rules;
      store = m.left.store;
    }

pub returns-in-Some : goal.returns-in-Some
returns-in-Some c =
    let m = read_bad _ _ _ _ _ _ c.if-text-gt-TEXT.false _ c.first_bad-utf8.ensures _ c.in-Some.is _ c.refused-in-Some.ensures in
    record {
      answer = m.answer;
      report = m.report;
      nodes = m.left.nodes;
      rules = m.left.rules;
      store = m.left.store;
    }

pub returns-then-text-le2048 : goal.returns-then-text-le2048
returns-then-text-le2048 c =
    let m = read_good _ _ _ _ _ _ c.if-text-gt-TEXT.false _ c.first_bad-utf8.ensures c.in_default.is _ _ _ _ c.read_listed.ensures.answer c.read_listed.ensures.left in
    record {
      answer = m.answer;
      report = m.report;
      nodes = m.left.nodes;
      rules = m.left.rules;
      store = m.left.store;
    }

pub returns-then-text-le12288 : goal.returns-then-text-le12288
returns-then-text-le12288 c =
    let m = read_good _ _ _ _ _ _ c.if-text-gt-TEXT.false _ c.first_bad-utf8.ensures c.in_default.is _ _ _ _ c.read_listed-then-text-le12288.ensures.answer c.read_listed-then-text-le12288.ensures.left in
    record {
      answer = m.answer;
      report = m.report;
      nodes = m.left.nodes;
      rules = m.left.rules;
      store = m.left.store;
    }

pub returns : goal.returns
returns c =
    let m = read_good _ _ _ _ _ _ c.if-text-gt-TEXT.false _ c.first_bad-utf8.ensures c.in_default.is _ _ _ _ c.read_listed-2.ensures.answer c.read_listed-2.ensures.left in
    record {
      answer = m.answer;
      report = m.report;
      nodes = m.left.nodes;
      rules = m.left.rules;
      store = m.left.store;
    }
