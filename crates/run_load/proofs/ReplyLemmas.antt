-- What the reply to each question tells of the world.
use Rattle.std.proofs.Common.{◌≡◌, ◌∙◌, ◌+◌, ◌-◌, ℕ, Bool, true, false, List, [], length, map, Option, None, Some, nat_lt, refl, sym, ap, arith}
use Rattle.std.specs.Prelude.{MatchBool, MatchOption, is_some}
use Rattle.std.specs.FinMap as finite
use Rattle.std.specs.Option.{option_map, option_or}
use Rattle.std.proofs.lemmas.Bool.{ltb-true}
use Rattle.run_load.specs.Asking.{AnswersByRow, addr_in, object_in, tells_bytes, value_in}
use Rattle.run_load.specs.Listed.{list_at, load_name, load_object}
use Rattle.law_steps.proofs.ThingLemmas.{raw_is}
use Rattle.sdr_base.specs.Parts.{part}
use Rattle.sdr_base.specs.declared.refusal.Refusal.{Refusal}
use Rattle.sdr_base.specs.declared.refusal.Refusal.TheVariants as refusals
use Rattle.sdr_model.specs.Accounts.{ticket_blocks}
use Rattle.sdr_model.specs.Limits.{longest_read}
use Rattle.sdr_model.specs.ListSteps.{datum_at, element_addr}
use Rattle.sdr_model.specs.Names.{name_of}
use Rattle.sdr_model.specs.RawSteps.{length_as}
use Rattle.sdr_model.specs.Steps.{Outcome, ReadsBytes, Refuses}
use Rattle.sdr_model.specs.Things.{Spot, block_among, block_for_name, inner_among, own_block}
use Rattle.sdr_model.specs.World.{World, as_raw, block_at, misnamed, spot_of, thing_at}
use Rattle.sdr_model.specs.declared.answer.Reply.{Reply}
use Rattle.sdr_model.specs.declared.answer.Reply.TheVariants as replies
use Rattle.sdr_model.specs.declared.call.Call.TheVariants as calls
use Rattle.sdr_model.specs.declared.name.Name.{Name}
use Rattle.sdr_model.specs.declared.things.SdrList.{SdrList}
use Rattle.sdr_model.specs.declared.things.UsedBlock.{UsedBlock}
use Rattle.sdr_model.specs.declared.things.Thing.{Thing}
use Rattle.sdr_model.specs.declared.things.Thing.TheVariants as things

-- a call that names something, and reads a reply off it
module _ {X : Type 0} (w : World) (o : Outcome) (refusal : Refusal) (bytes : X → List ℕ) (reply_of : X → Reply) where
  abbrev ReadsFound : Option X → Type 0
  ReadsFound found = MatchOption found (Refuses w o refusal) (λ x. ReadsBytes w o (bytes x) (reply_of x))

  read_off : {A : Type 0} (in_reply : Reply → Option A) (of : X → A) (reply : Reply) → o.reply ≡ reply
      → in_reply (replies.Refused refusal) ≡ None → ((x : X) → in_reply (reply_of x) ≡ Some (of x))
      → (found : Option X) → ReadsFound found → in_reply reply ≡ option_map of found
  read_off in_reply of reply told none some None h = ap in_reply (sym told ∙ h.2) ∙ none
  read_off in_reply of reply told none some (Some x) h = ap in_reply (sym told ∙ h.2) ∙ some x

module _ (w : World) (reply : Reply) where
  -- the object that the name finds
  pub finds : AnswersByRow w (calls.Find load_name) reply → object_in reply ≡ load_object w
  finds a =
      read_off w a.outcome refusals.NotFound (λ (n : Name). []) (λ (n : Name). replies.Pair n.kind n.object) object_in (λ (n : Name). n.object) reply a.told refl
      (λ n. refl) (name_of w.names load_name) a.row

  -- the length of the list
  pub counts : (list : ℕ) → AnswersByRow w (calls.ListLength list) reply → value_in reply ≡ option_map (λ (row : SdrList). length row.elements) (list_at w list)
  counts list a =
      read_off w a.outcome (misnamed w list) (λ (row : SdrList). []) (λ (row : SdrList). replies.Value (length row.elements)) value_in
      (λ (row : SdrList). length row.elements) reply a.told refl (λ row. refl) (list_at w list) a.row

  -- its first element
  pub comes_first : (list : ℕ) (row : SdrList) → AnswersByRow w (calls.First list) reply → list_at w list ≡ Some row
      → addr_in reply ≡ Some (element_addr row.elements 0)
  comes_first list row a there =
      read_off w a.outcome (misnamed w list) (λ (row : SdrList). []) (λ (row : SdrList). replies.At (element_addr row.elements 0)) addr_in
      (λ (row : SdrList). element_addr row.elements 0) reply a.told refl (λ row. refl) (list_at w list) a.row
      ∙ ap (option_map (λ (row : SdrList). element_addr row.elements 0)) there

  -- the element behind another
  pub comes_next : (element : ℕ) (s : Spot) → AnswersByRow w (calls.Next element) reply → spot_of w element ≡ Some s
      → addr_in reply ≡ Some (element_addr s.row.elements (s.place + 1))
  comes_next element s a there =
      read_off w a.outcome (misnamed w element) (λ (s : Spot). []) (λ (s : Spot). replies.At (element_addr s.row.elements (s.place + 1))) addr_in
      (λ (s : Spot). element_addr s.row.elements (s.place + 1)) reply a.told refl (λ s. refl) (spot_of w element) a.row
      ∙ ap (option_map (λ (s : Spot). element_addr s.row.elements (s.place + 1))) there

  -- the data of an element
  pub data_is : (element : ℕ) (s : Spot) → AnswersByRow w (calls.Datum element) reply → spot_of w element ≡ Some s
      → value_in reply ≡ Some (datum_at s.row.elements s.place)
  data_is element s a there =
      read_off w a.outcome (misnamed w element) (λ (s : Spot). []) (λ (s : Spot). replies.Value (datum_at s.row.elements s.place)) value_in
      (λ (s : Spot). datum_at s.row.elements s.place) reply a.told refl (λ s. refl) (spot_of w element) a.row
      ∙ ap (option_map (λ (s : Spot). datum_at s.row.elements s.place)) there

  -- a raw object alone gives bytes
  pub gives_bytes : (addr : ℕ) → AnswersByRow w (calls.Read addr 0 0) reply → tells_bytes reply ≡ is_some (as_raw (thing_at w addr))
  gives_bytes addr a = by (as_raw (thing_at w addr)) a.row
    where
      inside : (bytes : List ℕ) (b : Bool) → nat_lt (length bytes) (0 + 0) ≡ b
          → MatchBool b (Refuses w a.outcome (refusals.OutOfBounds addr 0 0)) (ReadsBytes w a.outcome (part 0 0 bytes) (replies.Bytes 0)) → tells_bytes reply ≡ true
      inside bytes true short h = absurd (omega (arith, ltb-true _ _ short))
      inside bytes false short h = ap tells_bytes (sym a.told ∙ h.2)

      by : (o : Option (List ℕ)) → MatchOption o (Refuses w a.outcome (misnamed w addr)) (λ bytes.
          MatchBool (nat_lt longest_read 0) (Refuses w a.outcome (refusals.BadLength 0 longest_read))
          (MatchBool (nat_lt (length bytes) (0 + 0)) (Refuses w a.outcome (refusals.OutOfBounds addr 0 0)) (ReadsBytes w a.outcome (part 0 0 bytes) (replies.Bytes 0))))
          → tells_bytes reply ≡ is_some o
      by None h = ap tells_bytes (sym a.told ∙ h.2)
      by (Some bytes) h = inside bytes (nat_lt (length bytes) (0 + 0)) refl h

  -- the length of a raw object
  pub has_length : (addr : ℕ) (bytes : List ℕ) → AnswersByRow w (calls.Length addr) reply → as_raw (thing_at w addr) ≡ Some bytes
      → value_in reply ≡ Some (length bytes)
  has_length addr bytes a raw =
      read_off w a.outcome (misnamed w addr) (λ (b : UsedBlock). []) (λ (b : UsedBlock). replies.Value (length_as b.kind b.bytes)) value_in
      (λ (b : UsedBlock). length_as b.kind b.bytes) reply a.told refl (λ b. refl) (block_at w addr) a.row
      ∙ ap (option_map (λ (b : UsedBlock). length_as b.kind b.bytes)) block ∙ ap Some all
    where
      others : Option UsedBlock
      others =
          option_or (inner_among addr (finite.entries w.things))
          (option_or (block_among addr (map block_for_name w.names)) (block_among addr (ticket_blocks w.accounts)))

      block : block_at w addr ≡ Some (own_block addr (things.Raw bytes))
      block = ap (λ (o : Option Thing). option_or (option_map (own_block addr) o) others) (raw_is (thing_at w addr) bytes raw)

      all : 8 + length bytes - 8 ≡ length bytes
      all = omega arith
