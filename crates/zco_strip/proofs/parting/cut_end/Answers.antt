-- The extent is cut, where some of its bytes lie in the part.
use Rattle.zco_strip.proofs.parting.cut_end.Goals as goal

pub see_extent-requires-clause-extent : goal.see_extent-requires-clause-extent
see_extent-requires-clause-extent g c = c.requires.extent c.if-place-eq0.false

pub cut_to-requires-clause-extent : goal.cut_to-requires-clause-extent
cut_to-requires-clause-extent g c = rw c.see_extent.ensures.looks.same (c.requires.extent c.if-place-eq0.false)
