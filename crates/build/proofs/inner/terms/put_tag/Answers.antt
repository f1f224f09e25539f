-- Without a tag, and with one that plain drops, the term is what was built already (`tie_none`, `tie_plain`).
-- Otherwise one record goes over it, which names the tag's text in the store, from `free` to `mid` (`tie_tagged`).
use Rattle.build.proofs.Terms.{tie_none, tie_plain, tag_fits, tie_tagged}
use Rattle.build.proofs.inner.terms.put_tag.Goals as goal

pub returns-then-kind_at-ne-TAG : goal.returns-then-kind_at-ne-TAG
returns-then-kind_at-ne-TAG c = tie_none _ _ _ _ _ _ _ c.kind_at.ensures _ c.if-kind_at-ne-TAG.true

pub put_tag-requires : goal.put_tag-requires
put_tag-requires c =
    let f = tag_fits _ _ _ _ _ _ _ c.kind_at.ensures c.if-kind_at-ne-TAG.false c.requires.lent.short _ c.start_at-a.ensures c.in-Tagged.is c.requires.tag_room in
    record {
      over = f.0;
      offset_le_most = f.1;
    }

pub returns-in-Plain : goal.returns-in-Plain
returns-in-Plain c = tie_plain _ _ _ _ _ _ _ c.kind_at.ensures c.if-kind_at-ne-TAG.false c.in-Plain.is

pub returns-in-Tagged : goal.returns-in-Tagged
returns-in-Tagged c = tie_tagged _ _ _ _ _ _ _ c.kind_at.ensures c.if-kind_at-ne-TAG.false c.requires.lent.short _ c.start_at-a.ensures c.in-Tagged.is _ c.put_tag.ensures
