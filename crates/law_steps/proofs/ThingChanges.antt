-- The changes of one thing: it goes, it is another with the same blocks, it loses or gains a block, or it is new.
use Rattle.std.proofs.Common.{◌≡◌, ℕ, ◌+◌, List, [], ◌∷◌, ◌++◌, true, Option, Some, None, nat_eq, refl, sym, ap, ◌∙◌, subst, arith}
use Rattle.std.specs.Cmp.{nat_eq_equiv}
use Rattle.std.specs.List.{sum_by}
use Rattle.std.specs.Prelude.{Contains}
use Rattle.std.proofs.lemmas.List.{map-append}
use Rattle.std.proofs.lemmas.List.Sums.{sum_by-append, sum_by-cons}
use Rattle.sdr_base.specs.declared.moves.Move.{Move}
use Rattle.sdr_base.specs.declared.moves.Move.TheVariants.{Took, Gave, Short}
use Rattle.law_steps.proofs.Alike.{Alike}
use Rattle.law_steps.proofs.Changes.{Changes, KeepsLimits, swaps_thing, none_marked, one_marked, thing_limits, blocks_at, things_blocks-with_at, sum_by-blocks_of}
use Rattle.law_steps.proofs.DistinctLemmas.{absent, weight, weight_of}
use Rattle.sdr_model.proofs.SumLemmas.{sum_by-map}
use Rattle.law_steps.specs.Fresh.{AreFresh}
use Rattle.law_steps.specs.MovesBlocks.{taken_needs, given_addresses}
use Rattle.sdr_model.specs.Steps.{taken_addresses, Outcome, Does, Takes, TakesOne, gave, with_thing, without_thing}
use Rattle.sdr_model.specs.Accounts.{ticket_blocks}
use Rattle.sdr_model.specs.Blocks.{thing_blocks, blocks_of, addresses_of}
use Rattle.sdr_model.specs.Step.{is_answer}
use Rattle.sdr_model.specs.Things.{own_block, inner_blocks}
use Rattle.sdr_model.specs.Valid.{IsValidThing}
use Rattle.sdr_model.specs.World.{World, thing_at}
use Rattle.sdr_model.specs.declared.answer.Reply.{Reply}
use Rattle.sdr_model.specs.declared.answer.Reply.TheVariants as replies
use Rattle.sdr_model.specs.declared.things.UsedBlock.{UsedBlock}
use Rattle.sdr_model.specs.declared.things.Thing.{Thing}
use Rattle.sdr_model.specs.declared.things.Thing.TheVariants as things

-- what follows from the one block that is taken
pub in_takes : {R : Type 0} (moves : List Move) (need : ℕ) (P : ℕ → Type 0) → TakesOne moves need P
    → ((addr : ℕ) → moves ≡ Took need addr ∷ [] → P addr → R) → R
in_takes (Took n addr ∷ []) need P t f = f addr (ap (λ n. Took n addr ∷ []) t.0) t.1
in_takes (Took n addr ∷ m ∷ ms) need P t f = absurd t
in_takes (Gave addr ∷ ms) need P t f = absurd t
in_takes (Short n ∷ ms) need P t f = absurd t
in_takes [] need P t f = absurd t

-- blocks that are given back
pub given-gave : (addrs : List ℕ) → given_addresses (gave addrs) ≡ addrs
given-gave [] = refl
given-gave (addr ∷ addrs) = ap (λ rest. addr ∷ rest) (given-gave addrs)

pub needs-gave : (addrs : List ℕ) → taken_needs (gave addrs) ≡ []
needs-gave [] = refl
needs-gave (addr ∷ addrs) = needs-gave addrs

pub taken-gave : (addrs : List ℕ) → taken_addresses (gave addrs) ≡ []
taken-gave [] = refl
taken-gave (addr ∷ addrs) = taken-gave addrs

-- a thing's own block begins at its address
pub own_addr : (addr : ℕ) (thing : Thing) → (own_block addr thing).addr ≡ addr
own_addr addr (things.Raw bytes) = refl
own_addr addr (things.Text text) = refl
own_addr addr (things.List row) = refl
own_addr addr (things.Table table) = refl
own_addr addr (things.Hash hash) = refl
own_addr addr (things.Source source) = refl
own_addr addr (things.Object object) = refl

-- no thing is where no block of the world begins
pub nothing_there : (w : World) (addr : ℕ) → ¬ Contains (addresses_of (blocks_of w)) addr → thing_at w addr ≡ None
nothing_there w addr none = by (thing_at w addr) refl
  where
    by : (o : Option Thing) → thing_at w addr ≡ o → thing_at w addr ≡ None
    by None is = is
    by (Some thing) is =
        let no_block : sum_by (λ (b : UsedBlock). weight (nat_eq addr b.addr)) (blocks_of w) ≡ 0 =
        sym (sum_by-map (λ a. weight (nat_eq addr a)) (λ (b : UsedBlock). b.addr) (blocks_of w))
        ∙ absent addr (addresses_of (blocks_of w)) none in
        let own : weight (nat_eq addr (own_block addr thing).addr) ≡ 1 =
        weight_of (ap (nat_eq addr) (own_addr addr thing) ∙ nat_eq_equiv.refl addr) in
        absurd (omega (
          arith,
          no_block,
          own,
          things_blocks-with_at (λ (b : UsedBlock). weight (nat_eq addr b.addr)) w.things addr None,
          sum_by-blocks_of (λ (b : UsedBlock). weight (nat_eq addr b.addr)) w,
          ap (λ o. sum_by (λ (b : UsedBlock). weight (nat_eq addr b.addr)) (blocks_at addr o)) is,
          sum_by-cons (λ (b : UsedBlock). weight (nat_eq addr b.addr)) (own_block addr thing) (inner_blocks thing),
        ))

module _ {w : World} {o : Outcome} where
  -- a thing goes, and its inner blocks are given back before its own
  pub goes : {next : World} (addr : ℕ) (thing : Thing) (inner : List ℕ) → thing_at w addr ≡ Some thing
      → addresses_of (inner_blocks thing) ≡ inner → Alike (without_thing w addr) next
      → Does o (gave (inner ++ addr ∷ [])) next replies.Done → Changes w o
  goes addr thing inner is blocks like does = swaps_thing w o (record {
    addr = addr;
    before = Some thing;
    after = None;
    taken = [];
    given = inner_blocks thing ++ own_block addr thing ∷ [];
    answered = ap is_answer does.2;
    marks = none_marked w o _ does.1 (ap taken_addresses does.0 ∙ taken-gave (inner ++ addr ∷ [])) like.marks refl
        like.taken;
    needs = sym (ap taken_needs does.0 ∙ needs-gave (inner ++ addr ∷ []));
    takes = sym (ap taken_addresses does.0 ∙ taken-gave (inner ++ addr ∷ []));
    gives =
        map-append (λ (b : UsedBlock). b.addr) (inner_blocks thing) (own_block addr thing ∷ [])
        ∙ ap (λ front. front ++ (own_block addr thing).addr ∷ []) blocks
        ∙ ap (λ a. inner ++ a ∷ []) (own_addr addr thing)
        ∙ sym (ap given_addresses does.0 ∙ given-gave (inner ++ addr ∷ []));
    was = λ fresh. is;
    things = ap (λ (v : World). v.things) does.1 ∙ like.things;
    names = ap (λ (v : World). v.names) does.1 ∙ like.names;
    tickets = ap (λ (v : World). ticket_blocks v.accounts) does.1 ∙ like.tickets;
    sums = λ limits measure.
        omega (
          arith,
          sum_by-cons measure (own_block addr thing) (inner_blocks thing),
          sum_by-append measure (inner_blocks thing) (own_block addr thing ∷ []),
        );
    valid = λ limits. tt;
  })

  -- a thing is another with the same blocks
  pub stays : {next : World} (addr : ℕ) (old new : Thing) → thing_at w addr ≡ Some old
      → Alike (with_thing w addr new) next → Does o [] next replies.Done
      → (IsValidThing old → thing_blocks addr new ≡ thing_blocks addr old) → (IsValidThing old → IsValidThing new)
      → Changes w o
  stays addr old new is like does same valid = swaps_thing w o (record {
    addr = addr;
    before = Some old;
    after = Some new;
    taken = [];
    given = [];
    answered = ap is_answer does.2;
    marks = none_marked w o _ does.1 (ap taken_addresses does.0) like.marks refl like.taken;
    needs = sym (ap taken_needs does.0);
    takes = sym (ap taken_addresses does.0);
    gives = sym (ap given_addresses does.0);
    was = λ fresh. is;
    things = ap (λ (v : World). v.things) does.1 ∙ like.things;
    names = ap (λ (v : World). v.names) does.1 ∙ like.names;
    tickets = ap (λ (v : World). ticket_blocks v.accounts) does.1 ∙ like.tickets;
    sums = λ limits measure. omega (arith, ap (sum_by measure) (same (thing_limits w addr old is limits)));
    valid = λ limits. valid (thing_limits w addr old is limits);
  })

  -- a thing loses one of its inner blocks
  pub loses : {next : World} (addr : ℕ) (old new : Thing) (block : UsedBlock) → thing_at w addr ≡ Some old
      → Alike (with_thing w addr new) next → Does o (gave (block.addr ∷ [])) next replies.Done
      → ((measure : UsedBlock → ℕ)
      → sum_by measure (thing_blocks addr new) + measure block ≡ sum_by measure (thing_blocks addr old))
      → (IsValidThing old → IsValidThing new) → Changes w o
  loses addr old new block is like does less valid = swaps_thing w o (record {
    addr = addr;
    before = Some old;
    after = Some new;
    taken = [];
    given = block ∷ [];
    answered = ap is_answer does.2;
    marks = none_marked w o _ does.1 (ap taken_addresses does.0) like.marks refl like.taken;
    needs = sym (ap taken_needs does.0);
    takes = sym (ap taken_addresses does.0);
    gives = sym (ap given_addresses does.0);
    was = λ fresh. is;
    things = ap (λ (v : World). v.things) does.1 ∙ like.things;
    names = ap (λ (v : World). v.names) does.1 ∙ like.names;
    tickets = ap (λ (v : World). ticket_blocks v.accounts) does.1 ∙ like.tickets;
    sums = λ limits measure. omega (arith, less measure);
    valid = λ limits. valid (thing_limits w addr old is limits);
  })

  -- a thing gains an inner block
  pub gains : {next : ℕ → World} (addr need : ℕ) (old : Thing) (new : ℕ → Thing) (block : ℕ → UsedBlock)
      (reply : ℕ → Reply) → thing_at w addr ≡ Some old → ((a : ℕ) → Alike (with_thing w addr (new a)) (next a))
      → ((a : ℕ) → (block a).addr ≡ a) → ((a : ℕ) → (block a).bytes ≡ need) → ((a : ℕ) → is_answer (reply a) ≡ true)
      → Takes w o need next reply
      → ((a : ℕ) (measure : UsedBlock → ℕ)
      → sum_by measure (thing_blocks addr (new a)) ≡ sum_by measure (thing_blocks addr old) + measure (block a))
      → ((a : ℕ) → IsValidThing old → IsValidThing (new a)) → Changes w o
  gains addr need old new block reply is like at bytes answers takes more valid =
      in_takes o.moves need _ takes (λ a moves did. swaps_thing w o (record {
        addr = addr;
        before = Some old;
        after = Some (new a);
        taken = block a ∷ [];
        given = [];
        answered = ap is_answer did.1 ∙ answers a;
        marks = one_marked w o a _ did.0 (ap taken_addresses moves) refl refl (like a).taken;
        needs = ap (λ n. n ∷ []) (bytes a) ∙ sym (ap taken_needs moves);
        takes = ap (λ n. n ∷ []) (at a) ∙ sym (ap taken_addresses moves);
        gives = sym (ap given_addresses moves);
        was = λ fresh. is;
        things = ap (λ (v : World). v.things) did.0 ∙ (like a).things;
        names = ap (λ (v : World). v.names) did.0 ∙ (like a).names;
        tickets = ap (λ (v : World). ticket_blocks v.accounts) did.0 ∙ (like a).tickets;
        sums = λ limits measure. omega (arith, more a measure);
        valid = λ limits. valid a (thing_limits w addr old is limits);
      }))

  -- a thing without inner blocks is made
  pub makes : {next : ℕ → World} (need : ℕ) (thing : Thing) (reply : ℕ → Reply) → inner_blocks thing ≡ []
      → ((a : ℕ) → (own_block a thing).bytes ≡ need) → ((a : ℕ) → is_answer (reply a) ≡ true)
      → (KeepsLimits w → IsValidThing thing) → ((a : ℕ) → Alike (with_thing w a thing) (next a))
      → Takes w o need next reply → Changes w o
  makes need thing reply inner bytes answers valid like takes =
      in_takes o.moves need _ takes (λ a moves did. swaps_thing w o (record {
        addr = a;
        before = None;
        after = Some thing;
        taken = own_block a thing ∷ [];
        given = [];
        answered = ap is_answer did.1 ∙ answers a;
        marks = one_marked w o a _ did.0 (ap taken_addresses moves) refl refl (like a).taken;
        needs = ap (λ n. n ∷ []) (bytes a) ∙ sym (ap taken_needs moves);
        takes = ap (λ n. n ∷ []) (own_addr a thing) ∙ sym (ap taken_addresses moves);
        gives = sym (ap given_addresses moves);
        was = λ fresh. nothing_there w a (subst (λ ms. AreFresh (addresses_of (blocks_of w)) ms) moves fresh).1;
        things = ap (λ (v : World). v.things) did.0 ∙ (like a).things;
        names = ap (λ (v : World). v.names) did.0 ∙ (like a).names;
        tickets = ap (λ (v : World). ticket_blocks v.accounts) did.0 ∙ (like a).tickets;
        sums = λ limits measure. omega (arith, ap (λ bs. sum_by measure (own_block a thing ∷ bs)) inner);
        valid = valid;
      }))
