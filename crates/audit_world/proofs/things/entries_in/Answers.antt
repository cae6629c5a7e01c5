use Rattle.std.proofs.Common.{◌/◌, ◌++◌, ◌∙◌, List, ℕ, ap, length, map, sym}
use Rattle.sdr_model.specs.declared.things.HashEntry.{HashEntry}
use Rattle.audit_owners.specs.View.{view_in}
use Rattle.audit_world.proofs.PutLemmas.{entries_more}
use Rattle.audit_world.specs.Told.{bucket_told, entry_told}
use Rattle.audit_world.proofs.things.entries_in.Goals as goal

pub loop-bucket-preserved : goal.loop-bucket-preserved
loop-bucket-preserved c =
    let heap = view_in c.args.heap.now in
    let words = length c.args.heap.now / 8 in
    c.in_ok-put_entries.ensures
    ∙ ap (λ (addrs : List ℕ). c.loop-bucket.entries ++ map (entry_told heap) addrs) (c.deref.ensures.value ∙ c.in_ok-members.ensures)
    ∙ ap (λ (es : List HashEntry). es ++ bucket_told heap words c.args.addr c.loop-bucket.bucket) c.loop-bucket.invariant
    ∙ sym (entries_more heap words c.args.addr c.loop-bucket.bucket)
