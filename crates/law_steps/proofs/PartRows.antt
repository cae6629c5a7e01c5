-- The rows that clone a part of an object, set it and cut to it, destroy it and bond it.
use Rattle.std.proofs.Common.{ℕ, ◌+◌, ◌==◌, ◌||◌, Some, None, nat_lt, refl, ap, ◌∙◌, arith}
use Rattle.sdr_base.specs.declared.kind.Space.{Space}
use Rattle.law_steps.proofs.ChargeLemmas.{count_there}
use Rattle.law_steps.proofs.SourceMoves.{sources_shared, sources_stay}
use Rattle.law_steps.proofs.ZcoOutcomes.{AccountChange, Queued, ZcoOutcome, drop_release, nothing}
use Rattle.sdr_model.specs.BondSteps as bond
use Rattle.sdr_model.specs.Cuts.{placed}
use Rattle.sdr_model.specs.Charges.{object_charge}
use Rattle.sdr_model.specs.Gone.{gone_things, without_things}
use Rattle.std.specs.FinMap as finite
use Rattle.sdr_model.specs.ObjectSteps as object
use Rattle.sdr_model.specs.PartSteps as part
use Rattle.sdr_model.specs.Steps.{DoesWith, taken_at, without_thing}
use Rattle.sdr_model.specs.World.{World}
use Rattle.sdr_model.specs.Zco.{extents_length, object_at}
use Rattle.sdr_model.specs.declared.call.Call.TheVariants as calls
use Rattle.sdr_model.specs.Things.{object_need}
use Rattle.sdr_model.specs.declared.answer.Reply.TheVariants as replies
use Rattle.sdr_model.specs.declared.things.Thing.TheVariants as things
use Rattle.sdr_model.specs.declared.zco.ZcoObject.{ZcoObject}
use Rattle.law_steps.proofs.ExtentLemmas.{cut_charge, cut_inside, cut_names, placed_charge, placed_inside, placed_names}
use Rattle.law_steps.proofs.OutcomeLemmas.{Comes, bonded_accounts, bonded_things, charged_things, charging, first_fresh, found, gone_accounts, object_inside, object_owes, owes_charge, owes_none, owes_release, refused, tested, told, used_things}

module _ (w : World) where
  -- a part of an object is cloned, delimited or left
  pub clones : (addr number offset bytes : ℕ)
      → Comes w (calls.ClonePart addr number offset bytes) (λ o. part.ClonePart w o addr number offset bytes)
  clones addr number offset bytes = found (object_at w addr) (λ none. refused) (λ z was.
      let es = part.asked_extents z offset bytes in
      let adds : Space → ℕ = λ space. object_charge space (part.object_of z.account es) in
      let new : (ℕ → ℕ) → ZcoObject = λ at. part.object_of z.account (placed at 1 es) in
      tested (bytes == 0 || nat_lt z.part.length (offset + bytes)) refused
      (charging (λ used o. DoesWith w o (λ at. part.clone_moves at es)
      (λ at. object.with_object used (at 0) (new at)) (λ at. replies.At (at 0))) z.account number adds
      (λ used c. record {
        comes = λ o h. ZcoOutcome.makes_object (record {
          addr = taken_at o.moves 0;
          object = new (taken_at o.moves);
          adds = adds;
          fresh = λ fresh. first_fresh w o object_need (taken_at o.moves 0) _ h.0 fresh;
          inside = λ all. placed_inside w (taken_at o.moves) 1 es
              (cut_inside w _ _ z.extents (object_inside w addr z was all));
          owes = owes_charge (λ b space. object_owes w addr z
              (λ z space. object_charge space
              (part.object_of z.account (part.asked_extents z offset bytes))) was b space)
              (λ b space. refl) (λ b space. refl);
          sources = sources_shared w.things z.account None (Some (new (taken_at o.moves))) (λ q. omega arith)
              (λ q named. omega (
                arith,
                named,
                placed_names q (taken_at o.moves) 1 es,
                cut_names q (z.part.offset + offset) (z.part.offset + offset + bytes) z.extents,
                count_there w.things addr z was q,
              ));
          charge = λ space. placed_charge space z.account (taken_at o.moves) 1 es;
          things = ap (λ (v : World). v.things) h.1
              ∙ charged_things (taken_at o.moves 0) (things.Object (new (taken_at o.moves))) c;
          accounts = AccountChange.charged used c refl refl (ap (λ (v : World). v.accounts) h.1);
        });
      })))

  pub delimits : (addr offset bytes : ℕ)
      → Comes w (calls.Delimit addr offset bytes) (λ o. part.Delimit w o addr offset bytes)
  delimits addr offset bytes = found (object_at w addr) (λ none. refused) (λ z was.
      tested (nat_lt (extents_length z.extents) (offset + bytes)) refused
      (told (λ o after. ZcoOutcome.reshapes (record {
        addr = addr;
        old = z;
        new = record z { part = record { offset = offset; length = bytes } };
        adds = nothing;
        frees = nothing;
        more = nothing;
        was = was;
        account = refl;
        inside = λ all. all;
        names = λ source. omega arith;
        sources = sources_stay w.things z.account (Some z) (Some (record z { part = record { offset = offset; length = bytes } }))
            (λ q. refl);
        charge = λ space. omega arith;
        owes = owes_none (λ b space. refl) (λ b space. refl) (λ b space. refl);
        things = ap (λ (v : World). v.things) after;
        accounts = AccountChange.stays refl refl refl (ap (λ (v : World). v.accounts) after);
      }))))

  pub strips : (addr : ℕ) → Comes w (calls.Strip addr) (λ o. part.Strip w o addr)
  strips addr = found (object_at w addr) (λ none. refused) (λ z was.
      let out = part.outside_part z in
      told (λ o after. ZcoOutcome.drops (record {
        addr = addr;
        old = z;
        out = out;
        new = Some (part.stripped z);
        was = was;
        account = refl;
        owes = owes_release (λ b space. refl)
            (λ b space. object_owes w addr z (λ z. drop_release w z (Some (part.stripped z)) (part.outside_part z)) was b space)
            (λ b space. refl);
        less = λ space. cut_charge space z;
        parts = λ source. cut_names source z.part.offset (part.part_end z) z.extents;
        inside = λ all. cut_inside w z.part.offset (part.part_end z) z.extents all;
        things = ap (λ (v : World). v.things) after;
        accounts = AccountChange.served
            (object.with_object (without_things w (gone_things w out out)) addr (part.stripped z)) refl
            (Queued.same refl (gone_accounts w (gone_things w out out)))
            (ap (λ (v : World). v.things) after) (ap (λ (v : World). v.accounts) after);
      })))

  pub destroys : (addr : ℕ) → Comes w (calls.Destroy addr) (λ o. object.Destroy w o addr)
  destroys addr = found (object_at w addr) (λ none. refused) (λ z was.
      told (λ o after. ZcoOutcome.drops (record {
        addr = addr;
        old = z;
        out = z.extents;
        new = None;
        was = was;
        account = tt;
        owes = owes_release (λ b space. refl) (λ b space. object_owes w addr z (λ z. drop_release w z None z.extents) was b space)
            (λ b space. refl);
        less = λ space. omega arith;
        parts = λ source. omega arith;
        inside = λ all. tt;
        things = ap (λ (v : World). v.things) after;
        accounts = AccountChange.served
            (without_thing (without_things w (gone_things w z.extents z.extents)) addr) refl
            (Queued.same refl (gone_accounts w (gone_things w z.extents z.extents)))
            (ap (λ (v : World). v.things) after) (ap (λ (v : World). v.accounts) after);
      })))

  -- headers and trailers become extents
  pub bonding : (addr number : ℕ) → Comes w (calls.Bond addr number) (λ o. bond.Bond w o addr number)
  bonding addr number = found (object_at w addr) (λ none. refused) (λ z was.
      let capsules = bond.capsules_of z in
      charging (λ used o. DoesWith w o (λ at. bond.bond_moves at 0 capsules)
      (λ at. object.with_object (bond.with_bonded used at 0 capsules) addr (bond.bonded at z))
      (λ at. replies.Done)) z.account number (bond.bond_charge capsules)
      (λ used c. record {
        comes = λ o h. ZcoOutcome.bonds (record {
          addr = addr;
          old = z;
          was = was;
          owes = owes_charge
              (λ b space. object_owes w addr z (λ z. bond.bond_charge (bond.capsules_of z)) was b space)
              (λ b space. refl) (λ b space. refl);
          moves = h.0;
          things = ap (λ (v : World). v.things) h.1
              ∙ ap (λ m. finite.insert m addr (things.Object (bond.bonded (taken_at o.moves) z)))
              (bonded_things w used (used_things c) (taken_at o.moves) 0 capsules);
          accounts = AccountChange.charged used c refl refl
              (ap (λ (v : World). v.accounts) h.1 ∙ bonded_accounts used (taken_at o.moves) 0 capsules);
        });
      }))
