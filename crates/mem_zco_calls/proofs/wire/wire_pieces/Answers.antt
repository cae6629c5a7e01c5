use Rattle.std.proofs.Common.{◌≡◌, ◌++◌, ap, ◌∙◌}
use Rattle.sdr_model.specs.Pieces.{capsule_pieces, cut_pieces, extent_pieces, wire_pieces}
use Rattle.mem_zco_calls.proofs.GatherLemmas.{Gathers-all, Gathers-append}
use Rattle.mem_zco_calls.proofs.wire.wire_pieces.Goals as goal

pub returns : goal.returns
returns c =
    let w = c.args.world.now.now in
    let headers = capsule_pieces c.as_slice.result.now in
    let extents = extent_pieces w c.as_slice-2.result.now in
    let trailers = capsule_pieces c.as_slice-3.result.now in
    let first = Gathers-append headers extents c.new-gathering.result c.add_capsules.new.self c.add_extents.new.self
    c.in_ok-add_capsules.ensures c.in_ok-add_extents.ensures in
    let same : headers ++ extents ++ trailers ≡ wire_pieces w c.args.object.now = cc in
    Gathers-all (headers ++ extents ++ trailers) c.args.skip c.args.count c.new-gathering.result c.add_capsules-2.new.self
    c.new-gathering.ensures.pieces c.new-gathering.ensures.skip c.new-gathering.ensures.count
    (Gathers-append (headers ++ extents) trailers c.new-gathering.result c.add_extents.new.self c.add_capsules-2.new.self
    first c.in_ok-add_capsules-2.ensures)
    ∙ ap (cut_pieces c.args.skip c.args.count) same
