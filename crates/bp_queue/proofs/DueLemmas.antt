-- The first one that is overdue goes, and its object.
use Rattle.std.proofs.Common.{◌≡◌, ℕ, true, not, List, [], ◌∷◌, ◌++◌, refl, sym, ap, ◌∙◌, subst, arith, append_assoc, inl}
use Rattle.std.specs.Prelude.{All, filter, if◌then◌else◌}
use Rattle.std.proofs.lemmas.Bool.{eq-eqb, ne_eqb}
use Rattle.std.proofs.lemmas.List.{map-append}
use Rattle.std.proofs.lemmas.List.Elements.{All-cons, All-head, All-nil, All-tail, All-weaker, filter_passes}
use Rattle.sdr_base.specs.Blocks.{Blocks}
use Rattle.sdr_base.specs.Entries.{BlocksAre, Entries}
use Rattle.sdr_base.specs.Making.{besides, gave, with_moves}
use Rattle.sdr_base.specs.Objects.{Heap}
use Rattle.sdr_base.specs.ZcoObjects.{ExtentRow, ObjectRow, object_entries}
use Rattle.sdr_base.specs.declared.account.Acct.{Acct}
use Rattle.sdr_base.specs.declared.account.Acct.TheVariants as accts
use Rattle.sdr_base.specs.declared.account.Amounts.{Amounts}
use Rattle.sdr_base.specs.declared.moves.Move.{Move}
use Rattle.sdr_base.specs.declared.moves.Move.TheVariants.{Gave}
use Rattle.sdr_base.proofs.GaveLemmas.{made_then}
use Rattle.sdr_base.proofs.StandingLemmas.{moved}
use Rattle.sdr_model.specs.Accounts.{is_same_account}
use Rattle.sdr_model.specs.Amounts.{minus}
use Rattle.zco_acct.specs.Words.{occupied_in, with_occupied}
use Rattle.zco_obj.specs.Destroying.{DestroysObject, KeepsSources, ObjectGone, charges_of, gone_object}
use Rattle.zco_obj.specs.Gone.{NamedSource, source_at, sources_entries}
use Rattle.zco_obj.specs.Kept.{ObjectFits}
use Rattle.zco_obj.specs.Leaving.{LeavesSources, raws_left, sources_staying, together}
use Rattle.zco_obj.specs.Uses.{AreNamed, CountsUses, IsThere}
use Rattle.zco_obj.proofs.CountLemmas.{naming-append}
use Rattle.zco_obj.proofs.LeavingLemmas.{destroy_leaves}
use Rattle.bp_queue.specs.Expiring.{FirstGone, KeepsOverdue, extents_of, object_for, objects_entries}
use Rattle.bp_queue.specs.Kept.{KeepsQueues, Row, queue_entries, waiting_of}
use Rattle.bp_queue.specs.Removing.{IsItem, RemovesItem, item_blocks}
use Rattle.bp_queue.specs.States.{later_than, line_of, overdue, without}
use Rattle.bp_queue.specs.declared.queues.Queues.{Queues}
use Rattle.bp_queue.proofs.FirstLemmas.{is_item, split_among}
use Rattle.bp_queue.proofs.FitLemmas.{between, rows_apart, without_between}
use Rattle.bp_queue.proofs.SortingLemmas.{Among, Apart, apart_filter}
use Rattle.bp_queue.proofs.StateLemmas.{Differ, apart_line, from_filter, from_line, is_due, keeps_but, later-without, overdue-without, split_object}

-- an object, those of others, sources and whatever else stand behind queues: the object and the sources in front
object_first : {b : Blocks} (Q O D S R : Entries) → BlocksAre b (Q ++ ((O ++ D) ++ (S ++ R))) → BlocksAre b (O ++ (S ++ ((Q ++ D) ++ R)))
object_first {b} Q O D S R s =
    let P : Entries → Type 0 = λ es. BlocksAre b es in
    let one : P (Q ++ (O ++ (D ++ (S ++ R)))) = subst (λ (es : Entries). P (Q ++ es)) (append_assoc O D (S ++ R)) s in
    let two : P (O ++ (Q ++ (D ++ (S ++ R)))) = moved Q O (D ++ (S ++ R)) one in
    let three : P ((O ++ (Q ++ D)) ++ (S ++ R)) =
    subst P (sym (append_assoc O (Q ++ D) (S ++ R) ∙ ap (λ (es : Entries). O ++ es) (append_assoc Q D (S ++ R)))) two in
    let four : P (S ++ ((O ++ (Q ++ D)) ++ R)) = moved (O ++ (Q ++ D)) S R three in
    moved S O ((Q ++ D) ++ R) (subst (λ (es : Entries). P (S ++ es)) (append_assoc O (Q ++ D) R) four)

-- and the other way round
queues_first : {b : Blocks} (S W Q D R : Entries) → BlocksAre b (S ++ (W ++ ((Q ++ D) ++ R))) → BlocksAre b (Q ++ (D ++ (S ++ (W ++ R))))
queues_first {b} S W Q D R s =
    let P : Entries → Type 0 = λ es. BlocksAre b es in
    let one : P ((S ++ W) ++ (Q ++ (D ++ R))) =
    subst P (sym (append_assoc S W (Q ++ (D ++ R))))
    (subst (λ (es : Entries). P (S ++ (W ++ es))) (append_assoc Q D R) s) in
    let two : P (Q ++ ((S ++ W) ++ (D ++ R))) = moved (S ++ W) Q (D ++ R) one in
    let three : P (D ++ ((Q ++ (S ++ W)) ++ R)) =
    moved (Q ++ (S ++ W)) D R (subst P (sym (append_assoc Q (S ++ W) (D ++ R))) two) in
    let four : P (Q ++ (D ++ ((S ++ W) ++ R))) =
    moved D Q ((S ++ W) ++ R) (subst (λ (es : Entries). P (D ++ es)) (append_assoc Q (S ++ W) R) three) in
    subst (λ (es : Entries). P (Q ++ (D ++ es))) (append_assoc S W R) four

-- the extents of the first object of its account are among those of all
same_account : (acct : Acct) → is_same_account acct acct ≡ true
same_account accts.Inbound = refl
same_account accts.Outbound = refl

front_all : (P : ExtentRow → Type 0) (xs ys : List ExtentRow) → All P (xs ++ ys) → All P xs
front_all P [] ys all = All-nil P
front_all P (x ∷ xs) ys all = All-cons P x xs (All-head P x (xs ++ ys) all) (front_all P xs ys (All-tail P x (xs ++ ys) all))

own_named : (acct : Acct) (extents more : List ExtentRow) (sources : List NamedSource) → AreNamed acct (together acct extents acct more) sources →
    AreNamed acct extents sources
own_named acct extents more sources n =
    let m : AreNamed acct (extents ++ more) sources =
    subst (λ v. AreNamed acct (if v then extents ++ more else more) sources) (same_account acct) n in
    record {
      there = front_all (λ (e : ExtentRow). IsThere (source_at e.source sources)) extents more m.there;
      counted =
          All-weaker (CountsUses acct (extents ++ more)) (CountsUses acct extents)
          (λ s u. record {
            fits = u.fits;
            short = u.short;
            enough = let e = u.enough in let a = naming-append s.addr extents more in omega (arith, e, a);
          }) sources m.counted;
    }

-- What a destruction does beside the blocks depends on nothing else of the heap but what stands beside the blocks.
abbrev pub with_gone : Acct → Amounts → List ℕ → Heap → Heap
with_gone acct charged addrs h =
    besides (with_occupied (with_moves h (gave addrs)) acct (minus (occupied_in h acct) charged))

pub gone_then : (mid : Heap) (acct : Acct) (charged : Amounts) (before addrs : List ℕ) (base : Heap) →
    besides mid ≡ besides (with_moves base (gave before)) →
    with_gone acct charged addrs mid
    ≡ besides (with_moves (with_occupied base acct (minus (occupied_in base acct) charged)) (gave (before ++ addrs)))
gone_then mid acct charged before addrs base e =
    ap (with_gone acct charged addrs) e
    ∙ ap (λ (h : Heap). besides (with_occupied h acct (minus (occupied_in base acct) charged)))
    (made_then {old = base} {mid = with_moves base (gave before)} {new = with_moves (with_moves base (gave before)) (gave addrs)} (gave before) (gave addrs)
    (record { all = refl }) (record { all = refl })).all
    ∙ ap (λ (ms : List Move). besides (with_moves (with_occupied base acct (minus (occupied_in base acct) charged)) ms))
    (sym (map-append (λ a. Gave a) before addrs))

-- the first row that is overdue, in whichever queues are kept
module _ {b : Blocks} {q : Queues} {now next : ℕ} {rows : List Row} {object_at : ℕ → ObjectRow} {sources : List NamedSource} {rest : Entries}
    (k : KeepsOverdue b q now next rows object_at sources rest) (r : Row) (due : List Row) (o : overdue waiting_of now rows ≡ r ∷ due) where
  abbrev z : ObjectRow
  z = object_for object_at r

  pub among : Among r rows
  among =
      from_line waiting_of r rows
      (from_filter waiting_of (is_due waiting_of now) r (line_of waiting_of rows) (subst (Among r) (sym o) (inl refl)))

  due_now : is_due waiting_of now r ≡ true
  due_now =
      All-head (λ (x : Row). is_due waiting_of now x ≡ true) r due
      (subst (All (λ (x : Row). is_due waiting_of now x ≡ true)) o (filter_passes (is_due waiting_of now) (line_of waiting_of rows)))

  -- those whose deadline is later stay
  pub later_left : later_than waiting_of now (without waiting_of r.waiting.object rows) ≡ later_than waiting_of now rows
  later_left = later-without waiting_of now r rows (split_object waiting_of r rows (rows_apart k.keeps.fits) among) due_now

  abbrev before : List Row
  before = (split_among r rows among).0

  abbrev behind : List Row
  behind = (split_among r rows among).1

  abbrev beside : Entries
  beside = objects_entries object_at (overdue waiting_of now rows) ++ (sources_entries sources ++ rest)

  pub its_item : {item : ℕ} → item ≡ r.waiting.item → IsItem b item q next before r behind beside
  its_item e = is_item k.keeps r among e

  fewer : before ++ behind ≡ without waiting_of r.waiting.object rows
  fewer =
      let s = split_among r rows among in
      sym (ap (without waiting_of r.waiting.object) s.2
      ∙ without_between before behind r (subst (Apart (Differ waiting_of)) s.2 (rows_apart k.keeps.fits)))

  -- the others that are overdue are those that were behind it
  pub others_due : overdue waiting_of now (without waiting_of r.waiting.object rows) ≡ due
  others_due =
      overdue-without waiting_of now r.waiting.object rows
      ∙ ap (filter (keeps_but waiting_of r.waiting.object)) o
      ∙ between (Differ waiting_of) (keeps_but waiting_of r.waiting.object) r
      (λ y d. ap not (ne_eqb y.waiting.object r.waiting.object d))
      (λ y d. ap not (ne_eqb y.waiting.object r.waiting.object (λ e. d (sym e))))
      (ap not (eq-eqb r.waiting.object r.waiting.object refl)) [] due
      (subst (Apart (Differ waiting_of)) o
      (apart_filter (Differ waiting_of) (is_due waiting_of now) (line_of waiting_of rows) (apart_line waiting_of rows (rows_apart k.keeps.fits))))

  fits_due : All (λ (x : Row). ObjectFits (object_for object_at x)) (r ∷ due)
  fits_due = subst (All (λ (x : Row). ObjectFits (object_for object_at x))) o k.fits

  named_due : (acct : Acct) → AreNamed acct (extents_of object_at acct (r ∷ due)) sources
  named_due acct = subst (λ (xs : List Row). AreNamed acct (extents_of object_at acct xs) sources) o (k.named acct)

  own : AreNamed z.account z.extents sources
  own = own_named z.account z.extents (extents_of object_at z.account due) sources (named_due z.account)

  -- once its item is gone
  module _ {mid : Blocks} (m : KeepsQueues mid q next (before ++ behind) beside) where
    abbrev queue : Entries
    queue = queue_entries q next (before ++ behind)

    abbrev others : Entries
    others = objects_entries object_at due

    in_front : BlocksAre mid (object_entries r.waiting.object z ++ (sources_entries sources ++ ((queue ++ others) ++ rest)))
    in_front =
        object_first queue (object_entries r.waiting.object z) others (sources_entries sources) rest
        (subst (λ (xs : List Row). BlocksAre mid (queue ++ (objects_entries object_at xs ++ (sources_entries sources ++ rest)))) o m.stands)

    pub object_kept : KeepsSources mid r.waiting.object z sources
    object_kept = record {
      rest = (queue ++ others) ++ rest;
      stands = in_front;
      fits = All-head (λ (x : Row). ObjectFits (object_for object_at x)) r due fits_due;
      named = own;
    }

    -- what its object leaves of the sources
    pub object_leaves : {middle new : Heap} → mid ≡ middle.blocks → ObjectGone r.waiting.object z sources middle new →
        LeavesSources z.account z.extents sources ((queue ++ others) ++ rest) new.blocks
    object_leaves {middle} same g =
        destroy_leaves g own ((queue ++ others) ++ rest)
        (subst (λ (es : Entries). BlocksAre middle.blocks es)
        (sym (append_assoc (object_entries r.waiting.object z) (sources_entries sources) ((queue ++ others) ++ rest)))
        (subst (λ (c : Blocks). BlocksAre c (object_entries r.waiting.object z ++ (sources_entries sources ++ ((queue ++ others) ++ rest)))) same in_front))

    -- and then its object
    pub object_goes : {middle new : Heap} → mid ≡ middle.blocks → ObjectGone r.waiting.object z sources middle new →
        KeepsOverdue new.blocks q now next (without waiting_of r.waiting.object rows) object_at
        (sources_staying z.account z.extents sources) (raws_left z.extents sources ++ rest)
    object_goes {middle} {new} same g =
        let l = object_leaves same g in
        let staying = sources_staying z.account z.extents sources in
        let raws = raws_left z.extents sources in
        let kept : KeepsQueues new.blocks q next (before ++ behind) (others ++ (sources_entries staying ++ (raws ++ rest))) =
        record {
          stands = queues_first (sources_entries staying) raws queue others rest l.stands;
          fits = m.fits;
        } in
        record {
          keeps =
              subst (λ (xs : List Row). KeepsQueues new.blocks q next (without waiting_of r.waiting.object rows)
              (objects_entries object_at xs ++ (sources_entries staying ++ (raws ++ rest)))) (sym others_due)
              (subst (λ (xs : List Row). KeepsQueues new.blocks q next xs (others ++ (sources_entries staying ++ (raws ++ rest)))) fewer kept);
          fits =
              subst (All (λ (x : Row). ObjectFits (object_for object_at x))) (sym others_due)
              (All-tail (λ (x : Row). ObjectFits (object_for object_at x)) r due fits_due);
          named = λ acct.
              subst (λ (xs : List Row). AreNamed acct (extents_of object_at acct xs) staying) (sym others_due)
              (l.named acct (extents_of object_at acct due) (named_due acct));
        }

  -- the item and the object are gone
  pub first_gone : {item object : ℕ} {old mid new : Heap} → old.blocks ≡ b → item ≡ r.waiting.item → RemovesItem item old mid object →
      DestroysObject object mid new → FirstGone r q now next rows object_at sources rest old new
  first_gone {item} {object} {old} {mid} {new} same e m d =
      let i = m.removes q next before r behind beside
      (subst (λ (c : Blocks). IsItem c item q next before r behind beside) (sym same) (its_item e)) in
      let g : ObjectGone r.waiting.object z sources mid new =
      subst (λ (a : ℕ). ObjectGone a z sources mid new) i.named
      (d.gone z sources (subst (λ (a : ℕ). KeepsSources mid.blocks a z sources) (sym i.named) (object_kept i.keeps))) in
      record {
        keeps = object_goes i.keeps refl g;
        named = (object_leaves i.keeps refl g).named;
        others =
            g.others
            ∙ gone_then mid z.account (charges_of z sources) (item_blocks r) (gone_object r.waiting.object z sources) old i.made.all;
      }
