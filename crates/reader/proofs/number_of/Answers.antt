-- One reason a return: its number is the definition's.
use mathlib.Core.Path.{sym, ap}
use Rattle.reader.specs.Read.{number_of}
use Rattle.reader.proofs.number_of.Goals as goal

pub returns-in-TooLong : goal.returns-in-TooLong
unfolding number_of
returns-in-TooLong c = sym (ap number_of c.in-TooLong.is)

pub returns-in-NotUtf8 : goal.returns-in-NotUtf8
unfolding number_of
returns-in-NotUtf8 c = sym (ap number_of c.in-NotUtf8.is)

pub returns-in-NoToken : goal.returns-in-NoToken
unfolding number_of
returns-in-NoToken c = sym (ap number_of c.in-NoToken.is)

pub returns-in-NotAllowed : goal.returns-in-NotAllowed
unfolding number_of
returns-in-NotAllowed c = sym (ap number_of c.in-NotAllowed.is)

pub returns-in-TooDeep : goal.returns-in-TooDeep
unfolding number_of
returns-in-TooDeep c = sym (ap number_of c.in-TooDeep.is)

pub returns-in-Over : goal.returns-in-Over
unfolding number_of
returns-in-Over c = sym (ap number_of c.in-Over.is)

pub returns-in-Zero : goal.returns-in-Zero
unfolding number_of
returns-in-Zero c = sym (ap number_of c.in-Zero.is)

pub returns-in-PeekRange : goal.returns-in-PeekRange
unfolding number_of
returns-in-PeekRange c = sym (ap number_of c.in-PeekRange.is)

pub returns-in-NotScalar : goal.returns-in-NotScalar
unfolding number_of
returns-in-NotScalar c = sym (ap number_of c.in-NotScalar.is)

pub returns-in-NotPlain : goal.returns-in-NotPlain
unfolding number_of
returns-in-NotPlain c = sym (ap number_of c.in-NotPlain.is)

pub returns-in-Above : goal.returns-in-Above
unfolding number_of
returns-in-Above c = sym (ap number_of c.in-Above.is)

pub returns-in-RulesRoom : goal.returns-in-RulesRoom
unfolding number_of
returns-in-RulesRoom c = sym (ap number_of c.in-RulesRoom.is)

pub returns-in-NodesRoom : goal.returns-in-NodesRoom
unfolding number_of
returns-in-NodesRoom c = sym (ap number_of c.in-NodesRoom.is)

pub returns-in-StoreRoom : goal.returns-in-StoreRoom
unfolding number_of
returns-in-StoreRoom c = sym (ap number_of c.in-StoreRoom.is)
