use Rattle.std.proofs.Common.{◌≡◌, Some, All, ap, map, position, subst, sym, ◌∙◌}
use Rattle.std.proofs.lemmas.List.Quantifiers.{position-Some}
use Rattle.sdr_model.specs.Dry.{next_addr}
use Rattle.sdr_model.specs.HashChanges.{HasKey}
use Rattle.sdr_model.specs.HashSteps.{as_hash, entry_addr, has_key}
use Rattle.mem_store.specs.Owners.{IsOwned, Owns}
use Rattle.sdr_model.specs.Things.{entry_block, inner_blocks}
use Rattle.sdr_model.specs.declared.things.HashEntry.{HashEntry}
use Rattle.mem_store.proofs.OwnersLemmas.{OwnsInside-set, entry_owned}
use Rattle.mem_calls.proofs.hash_calls.set_entry.Goals as goal

pub put-requires-clause-may_put : goal.put-requires-clause-may_put
put-requires-clause-may_put c =
    let owners = c.take.new.self.owners in
    let next = next_addr c.take.new.self.now.taken in
    let hash = c.in-Hash.hash in
    let entry : HashEntry = record { block = c.entry_addr-block.result; key = c.args.key; value = c.args.value } in
    let found : position (has_key c.args.key) hash.entries ≡ Some c.args.place =
    subst (λ o. HasKey (as_hash o) c.args.key c.args.place) (c.in_ok-hash.ensures.taken ∙ ap Some c.in-Hash.is) c.requires.key in
    let inside = (position-Some (has_key c.args.key) hash.entries c.args.place entry found).0 in
    let all =
    subst (All (Owns owners next c.args.addr)) (ap inner_blocks c.in-Hash.is) c.in_ok-hash.ensures.may_put.inside in
    let here = entry_owned owners next c.args.addr hash.entries c.args.place all inside in
    let same = c.entry_addr-block.ensures ∙ ap (λ es. entry_addr es c.args.place) c.entries.ensures in
    OwnsInside-set owners next c.args.addr entry_block hash.entries c.args.place c.in_ok-hash.field-0 _
    (ap inner_blocks c.in-Hash.is) c.in_ok-hash.ensures.may_put entry
    (subst (IsOwned owners next c.args.addr) (sym same) here)
    (ap (λ h. map entry_block h.entries) c.set.ensures)
