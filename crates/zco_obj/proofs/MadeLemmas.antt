-- Objects that were made.
use Rattle.std.proofs.Common.{◌≡◌, ◌+◌, ℕ, List, [], ◌∷◌, ap, ◌∙◌, arith, subst}
use Rattle.sdr_base.specs.Linked.{linked}
use Rattle.sdr_base.specs.Making.{MakesThing, besides, with_moves}
use Rattle.sdr_base.specs.Objects.{Heap, OnlyShort}
use Rattle.sdr_base.specs.Words.{TakesBytes, layout}
use Rattle.sdr_base.specs.ZcoObjects.{account_number, object_entries}
use Rattle.sdr_base.specs.declared.account.Acct.{Acct}
use Rattle.sdr_base.specs.declared.kind.Kind.TheVariants as kinds
use Rattle.sdr_base.specs.declared.moves.Move.TheVariants.{Took}
use Rattle.sdr_base.specs.declared.refusal.Refusal.TheVariants as refusals
use Rattle.sdr_base.specs.declared.stop.Stop.{Stop}
use Rattle.sdr_base.specs.declared.stop.Stop.TheVariants.{Refused, DiskFault, MediaFault, Failed}
use Rattle.sdr_base.proofs.LayoutLemmas.{length-layout}
use Rattle.sdr_base.proofs.MakingLemmas.{taken_makes}
use Rattle.zco_acct.specs.Charges.{ChargesAccount, ChargeStops}
use Rattle.zco_acct.specs.Kept.{SomeQueue}
use Rattle.zco_obj.specs.Amounts.{object_amounts}
use Rattle.zco_obj.specs.Charging.{LacksRoom}
use Rattle.zco_obj.specs.Making.{CreatesObject, CreateStops, empty_row}
use Rattle.zco_obj.proofs.CauseLemmas.{queue_cause}
use Rattle.zco_obj.proofs.ChargeLemmas.{charged_moves, charged_spare, free_before, lacks_after, none_took, pays}

-- the words of an object with nothing in it
abbrev empty_words : ℕ → List ℕ
empty_words number = number ∷ 0 ∷ 0 ∷ 0 ∷ 0 ∷ 0 ∷ 0 ∷ 0 ∷ 0 ∷ []

-- its block was taken
pub makes_empty : (acct : Acct) {addr : ℕ} {old new : Heap} (account : ℕ) → account ≡ account_number acct →
    TakesBytes kinds.Object (layout (empty_words account) []) addr old new →
    MakesThing 72 addr (object_entries addr (empty_row acct)) old new
unfolding linked
makes_empty acct {addr} {old} {new} account e t =
    let words = empty_words (account_number acct) in
    let here : TakesBytes kinds.Object (layout words []) addr old new =
    subst (λ (n : ℕ). TakesBytes kinds.Object (layout (empty_words n) []) addr old new) e t in
    record {
      adds = (taken_makes here).adds;
      made = record {
        all =
            ap besides here.taken
            ∙ ap (λ n. besides (with_moves old (Took n addr ∷ [])))
            (let l = length-layout words [] in let z : 72 + 0 ≡ 72 = omega arith in l ∙ z);
      };
    }

-- it was made after the charge
pub creates : {acct : Acct} {number addr : ℕ} {old mid new : Heap} → SomeQueue old acct →
    ChargesAccount acct number object_amounts old mid → MakesThing 72 addr (object_entries addr (empty_row acct)) mid new →
    CreatesObject acct number addr old new
creates q c m = record {
  new_block = free_before c q.keeps m.adds.nonzero m.adds.small m.adds.fresh;
  pays = λ tickets k. pays c k m.adds.changes m.made;
}

-- why it isn't made: the account isn't charged
pub uncharged : (acct : Acct) (number : ℕ) (old new : Heap) (stop : Stop) → SomeQueue old acct →
    ChargeStops acct number object_amounts old new stop → CreateStops acct number old new stop
uncharged acct number old new (Refused (refusals.NoBlock missing)) q s = absurd (queue_cause number object_amounts q s.0)
uncharged acct number old new (Refused (refusals.LogFull lines room)) q s = (s.0, none_took 72 s.1)
uncharged acct number old new (Refused refusal) q s = s
uncharged acct number old new DiskFault q s = s
uncharged acct number old new MediaFault q s = s
uncharged acct number old new Failed q s = s

-- or there is no room for it then
pub roomless : (acct : Acct) (number : ℕ) (old mid new : Heap) (stop : Stop) → SomeQueue old acct →
    ChargesAccount acct number object_amounts old mid → OnlyShort 72 mid new stop → CreateStops acct number old new stop
roomless acct number old mid new stop q c s =
    by stop (lacks_after 72 old mid new stop (charged_moves c q.keeps) (charged_spare c q.keeps) s)
  where
    by : (stop : Stop) → LacksRoom 72 old new stop → CreateStops acct number old new stop
    by (Refused (refusals.NoBlock missing)) l = (c.allows, l)
    by (Refused (refusals.LogFull lines room)) l = (c.allows, l)
    by (Refused refusal) l = absurd l
    by DiskFault l = l
    by MediaFault l = l
    by Failed l = l
