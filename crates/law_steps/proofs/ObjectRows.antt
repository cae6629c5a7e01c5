-- The rows that make an object, add to it and take a header or trailer from it.
use Rattle.std.proofs.Common.{◌≡◌, ℕ, ◌+◌, ◌≤◌, ◌==◌, ◌||◌, ◌++◌, List, [], ◌∷◌, Option, Some, None, length, nat_lt, refl, sym, ap, ◌∙◌, subst, arith}
use Rattle.std.specs.Prelude.{All, slice_get, if◌then◌else◌}
use Rattle.std.proofs.lemmas.List.Elements.{All-nil, All-push}
use Rattle.std.proofs.lemmas.List.Sums.{sum_by-append, sum_by-cons}
use Rattle.sdr_base.specs.declared.account.Acct.{Acct}
use Rattle.sdr_base.specs.declared.kind.Space.{Space}
use Rattle.sdr_base.specs.declared.kind.Space.TheVariants as spaces
use Rattle.law_steps.proofs.ZcoOutcomes.{AccountChange, Owes, Queued, ZcoOutcome, nothing}
use Rattle.law_steps.proofs.SourceCharges.{bytes_in}
use Rattle.law_steps.proofs.SourceMoves.{sources_stay, sources_use, use_parts}
use Rattle.law_steps.proofs.ThingLemmas.{raw_is, source_is}
use Rattle.law_steps.specs.Charged.{append_charge, charge_less, of_account, ticket_of}
use Rattle.sdr_model.specs.Amounts.{in_space}
use Rattle.sdr_model.specs.Charges.{bytes_charge, capsule_bytes, capsule_charge, extent_bytes, object_bytes, object_charge, use_charge}
use Rattle.sdr_model.specs.Limits.{is_no_capsule}
use Rattle.std.specs.FinMap as finite
use Rattle.sdr_model.specs.ObjectSteps as object
use Rattle.sdr_model.specs.SourceSteps as source
use Rattle.sdr_model.specs.Steps.{DoesWith, Takes, taken_at, with_thing}
use Rattle.sdr_model.specs.Valid.{LiesInside}
use Rattle.sdr_model.specs.World.{World, as_raw, thing_at}
use Rattle.sdr_model.specs.Zco.{count_of, empty_object, naming, object_at, source_at, source_naming}
use Rattle.sdr_model.specs.declared.call.Call.{Call}
use Rattle.sdr_model.specs.declared.call.Call.TheVariants as calls
use Rattle.sdr_model.specs.Things.{capsule_need, extent_need, object_need}
use Rattle.sdr_model.specs.declared.answer.Reply.TheVariants as replies
use Rattle.sdr_model.specs.declared.things.Thing.TheVariants as things
use Rattle.sdr_model.specs.declared.zco.Capsule.{Capsule}
use Rattle.sdr_model.specs.declared.zco.Extent.{Extent}
use Rattle.sdr_model.specs.declared.zco.Subject.TheVariants as subjects
use Rattle.sdr_model.specs.declared.zco.ZcoObject.{ZcoObject}
use Rattle.sdr_model.specs.declared.zco.ZcoSource.{ZcoSource}
use Rattle.law_steps.proofs.ExtentLemmas.{extents_joined, first_sum, last_sum}
use Rattle.law_steps.proofs.OutcomeLemmas.{Comes, asked, charged_things, charging, found, in_range, object_owes, owes_charge, refused, takes, tested, told}

-- an object with nothing in it
empty_charge : (acct : Acct) (space : Space) → object_charge space (empty_object acct) ≡ in_space spaces.Heap object_bytes space
empty_charge acct spaces.File = refl
empty_charge acct spaces.Bulk = refl
empty_charge acct spaces.Heap = refl

pub create : (w : World) (acct : Acct) (number : ℕ)
    → Comes w (calls.Create acct number) (λ o. object.Create w o acct number)
create w acct number =
    charging (λ used o. Takes w o object_need (λ addr. object.with_object used addr (empty_object acct))
    (λ addr. replies.At addr)) acct number (in_space spaces.Heap object_bytes) (λ used c. takes (λ o a fresh after.
    ZcoOutcome.makes_object (record {
      addr = a;
      object = empty_object acct;
      adds = in_space spaces.Heap object_bytes;
      fresh = fresh;
      inside = λ all. All-nil _;
      sources = sources_stay w.things acct None (Some (empty_object acct)) (λ q. refl);
      charge = λ space. empty_charge acct space;
      owes = owes_charge (λ b space. refl) (λ b space. refl) (λ b space. refl);
      things = ap (λ (v : World). v.things) after ∙ charged_things a (things.Object (empty_object acct)) c;
      accounts = AccountChange.charged used c refl refl (ap (λ (v : World). v.accounts) after);
    })))

-- an object gains an extent, which charges for itself
pub extent_charge_more : (z : ZcoObject) (e : Extent) (space : Space)
    → object_charge space (object.with_extent z e) ≡ object_charge space z + in_space spaces.Heap extent_bytes space
extent_charge_more z e space =
    omega (arith, extents_joined space z.extents (e ∷ []))

-- a header or trailer comes, or goes
pub header_charge : (z : ZcoObject) (c : Capsule) (space : Space)
    → object_charge space (object.with_header z c) ≡ object_charge space z + capsule_charge space c
header_charge z c space = omega (arith, sum_by-cons (capsule_charge space) c z.headers)

pub trailer_charge : (z : ZcoObject) (c : Capsule) (space : Space)
    → object_charge space (object.with_trailer z c) ≡ object_charge space z + capsule_charge space c
trailer_charge z c space =
    omega (arith, sum_by-append (capsule_charge space) z.trailers (c ∷ []), sum_by-cons (capsule_charge space) c [])

pub first_less : (z : ZcoObject) (c : Capsule) → slice_get z.headers 0 ≡ Some c → (space : Space)
    → object_charge space (object.without_header z) + capsule_charge space c ≡ object_charge space z
first_less z c is space = omega (arith, first_sum (capsule_charge space) z.headers c is)

pub last_less : (z : ZcoObject) (c : Capsule) → object.last_capsule z.trailers ≡ Some c → (space : Space)
    → object_charge space (object.without_trailer z) + capsule_charge space c ≡ object_charge space z
last_less z c is space = omega (arith, last_sum (capsule_charge space) z.trailers c is)

module _ (w : World) where
  naming_more : (source : ℕ) (z : ZcoObject) (e : Extent)
      → naming source z.extents ≤ naming source (z.extents ++ e ∷ [])
  naming_more source z e =
      omega (arith, sum_by-append (λ (e : Extent). if e.source == source then 1 else 0) z.extents (e ∷ []))

  appends_source : (addr number named : ℕ) (z : ZcoObject) (s : ZcoSource) (offset bytes : ℕ)
      → object_at w addr ≡ Some z → source_at w named ≡ Some s
      → Comes w (calls.AppendExtent addr number named offset bytes)
      (λ o. object.AppendsSource w o addr z number named s offset bytes)
  appends_source addr number named z s offset bytes was is =
      let e : ℕ → Extent = λ block. record { block = block; source = named; offset = offset; length = bytes } in
      tested s.flagged refused (asked (bytes == 0 || nat_lt s.length (offset + bytes)) (λ out. refused) (λ in_it.
      charging (λ used o. Takes w o extent_need (λ block. object.with_object used addr (object.with_extent z (e block)))
      (λ block. replies.Done)) z.account number (use_charge w z.account named s)
      (λ used c. takes (λ o a fresh after. ZcoOutcome.reshapes (record {
        addr = addr;
        old = z;
        new = object.with_extent z (e a);
        adds = use_charge w z.account named s;
        frees = nothing;
        more = λ space. if count_of w named z.account == 0 then bytes_in space (source_at w named) else 0;
        was = was;
        account = refl;
        inside = λ all. All-push (λ (x : Extent). LiesInside x (source_at w x.source)) z.extents (e a) all
            (subst (LiesInside (e a)) (sym is) (in_range offset bytes s.length in_it).1);
        names = λ source. naming_more source z (e a);
        owes = owes_charge (λ b space. object_owes w addr z
            (λ z. append_charge w z.account named (thing_at w named)) was b space
            ∙ ap (λ o. of_account z.account (append_charge w z.account named o) b space)
            (source_is (thing_at w named) s is))
            (λ b space. refl) (λ b space. refl);
        sources = sources_use w.things z.account z (e a);
        charge = λ space. omega (arith, extent_charge_more z (e a) space, use_parts w z.account named s is space);
        things = ap (λ (v : World). v.things) after ∙ charged_things addr
            (things.Object (object.with_extent z (e a))) c;
        accounts = AccountChange.charged used c refl refl (ap (λ (v : World). v.accounts) after);
      })))))

  appends_raw : (addr number raw : ℕ) (z : ZcoObject) (text : List ℕ) (offset bytes : ℕ)
      → object_at w addr ≡ Some z → as_raw (thing_at w raw) ≡ Some text
      → Comes w (calls.AppendExtent addr number raw offset bytes)
      (λ o. object.AppendsRaw w o addr z number raw text offset bytes)
  appends_raw addr number raw z text offset bytes was is =
      let e : (ℕ → ℕ) → Extent = λ at. record { block = at 1; source = at 0; offset = offset; length = bytes } in
      let s = source.new_source (subjects.Heap raw) (length text) in
      found (source_naming w raw) (λ none.
      asked (bytes == 0 || nat_lt (length text) (offset + bytes)) (λ out. refused) (λ in_it.
      charging (λ used o. DoesWith w o object.raw_append_moves
      (λ at. object.with_object (with_thing used (at 0) (things.Source s)) addr (object.with_extent z (e at)))
      (λ at. replies.Done)) z.account number (bytes_charge spaces.Heap (length text))
      (λ used c. record {
        comes = λ o h. ZcoOutcome.takes_over (record {
          addr = addr;
          old = z;
          raw = raw;
          text = text;
          extent = e (taken_at o.moves);
          was = was;
          bytes = is;
          unnamed = none;
          source = refl;
          inside = (in_range offset bytes (length text) in_it).1;
          owes = owes_charge
              (λ b space. object_owes w addr z (λ z. append_charge w z.account raw (thing_at w raw)) was b space
              ∙ ap (λ o. of_account z.account (append_charge w z.account raw o) b space)
              (raw_is (thing_at w raw) text is))
              (λ b space. refl) (λ b space. refl);
          moves = h.0;
          things = ap (λ (v : World). v.things) h.1
              ∙ ap (λ m. finite.insert m addr (things.Object (object.with_extent z (e (taken_at o.moves)))))
              (charged_things (taken_at o.moves 0) (things.Source s) c);
          accounts = AccountChange.charged used c refl refl (ap (λ (v : World). v.accounts) h.1);
        });
      }))) (λ s at. refused)

  pub appends : (addr number named offset bytes : ℕ)
      → Comes w (calls.AppendExtent addr number named offset bytes)
      (λ o. object.AppendExtent w o addr number named offset bytes)
  appends addr number named offset bytes =
      found (object_at w addr) (λ none. refused) (λ z was.
      found (source_at w named)
      (λ no_source. found (as_raw (thing_at w named)) (λ none. refused)
      (λ text is. appends_raw addr number named z text offset bytes was is))
      (λ s is. appends_source addr number named z s offset bytes was is))

  -- a header or trailer comes
  pub adds_capsule : (call : Call) (addr number : ℕ) (text : List ℕ) (more : ZcoObject → Capsule → ZcoObject)
      → ((z : ZcoObject) (c : Capsule) → ((more z c).account ≡ z.account) × ((more z c).extents ≡ z.extents))
      → ((z : ZcoObject) (c : Capsule) (space : Space)
      → object_charge space (more z c) ≡ object_charge space z + capsule_charge space c)
      → ticket_of call ≡ number
      → ((z : ZcoObject) → object_at w addr ≡ Some z
      → Owes w call z.account (in_space spaces.Heap (capsule_bytes (length text))) nothing nothing)
      → Comes w call (λ o. object.AddsCapsule w o addr number text more)
  adds_capsule call addr number text more same charge under owes =
      let cap : ℕ → Capsule = λ block. record { block = block; text = text } in
      found (object_at w addr) (λ none. refused) (λ z was.
      tested (is_no_capsule (length text)) refused
      (charging (λ used o. Takes w o (capsule_need (length text))
      (λ block. object.with_object used addr (more z (cap block))) (λ block. replies.Done)) z.account number
      (in_space spaces.Heap (capsule_bytes (length text)))
      (λ used c. takes (λ o a fresh after. ZcoOutcome.reshapes (record {
        addr = addr;
        old = z;
        new = more z (cap a);
        adds = in_space spaces.Heap (capsule_bytes (length text));
        frees = nothing;
        more = nothing;
        was = was;
        account = (same z (cap a)).0;
        inside = λ all. subst (All (λ (x : Extent). LiesInside x (source_at w x.source))) (sym (same z (cap a)).1) all;
        names = λ source. omega (arith, ap (naming source) (same z (cap a)).1);
        sources = sources_stay w.things z.account (Some z) (Some (more z (cap a)))
            (λ q. ap (naming q) (same z (cap a)).1);
        charge = λ space. omega (arith, charge z (cap a) space);
        owes = owes z was;
        things = ap (λ (v : World). v.things) after ∙ charged_things addr (things.Object (more z (cap a))) c;
        accounts = subst (λ n. AccountChange w o.after z.account n (in_space spaces.Heap (capsule_bytes (length text)))
            nothing nothing) (sym under)
            (AccountChange.charged used c refl refl (ap (λ (v : World). v.accounts) after));
      })))))

  -- a header or trailer goes
  pub discards : (call : Call) (addr : ℕ) (z new : ZcoObject) (capsule : Option Capsule) → object_at w addr ≡ Some z
      → new.account ≡ z.account → new.extents ≡ z.extents
      → ((c : Capsule) → capsule ≡ Some c → (space : Space)
      → object_charge space new + capsule_charge space c ≡ object_charge space z)
      → Owes w call z.account nothing (charge_less z (Some new)) nothing
      → Comes w call (λ o. object.Discards w o addr z capsule new)
  discards call addr z new capsule was account same charge owes = found capsule (λ none. refused)
      (λ c is. told (λ o after.
      ZcoOutcome.reshapes (record {
        addr = addr;
        old = z;
        new = new;
        adds = nothing;
        frees = charge_less z (Some new);
        more = nothing;
        was = was;
        account = account;
        inside = λ all. subst (All (λ (x : Extent). LiesInside x (source_at w x.source))) (sym same) all;
        names = λ source. omega (arith, ap (naming source) same);
        sources = sources_stay w.things z.account (Some z) (Some new) (λ q. ap (naming q) same);
        charge = λ space. omega (arith, charge c is space);
        owes = owes;
        things = ap (λ (v : World). v.things) after;
        accounts = AccountChange.served (object.with_object w addr new) refl (Queued.same refl refl)
            (ap (λ (v : World). v.things) after) (ap (λ (v : World). v.accounts) after);
      })))
