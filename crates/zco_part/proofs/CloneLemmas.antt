-- A part of an object is cloned after its charge, or it isn't.
use Rattle.std.proofs.Common.{◌≡◌, ◌-◌, ◌≤◌, ℕ, List, [], ◌∷◌, ◌++◌, length, refl, sym, ap, ◌∙◌, arith, subst, append_assoc, append-nil}
use Rattle.std.specs.Prelude.{All}
use Rattle.std.proofs.lemmas.List.Elements.{All-cons, All-head, All-nil, All-tail, All-weaker}
use Rattle.sdr_base.specs.Entries.{Changes, Entries, BlocksAre, times}
use Rattle.sdr_base.specs.Linked.{first_of, linked}
use Rattle.sdr_base.specs.Making.{MakesThing}
use Rattle.sdr_base.specs.Objects.{AreFirstOf, Heap, OnlyShort}
use Rattle.sdr_base.specs.ZcoObjects.{ExtentRow, ObjectRow, capsule_entries, extent_addr, extent_block, extent_entries, object_entries}
use Rattle.sdr_base.specs.declared.account.Acct.{Acct}
use Rattle.sdr_base.specs.declared.account.Acct.TheVariants as accts
use Rattle.sdr_base.specs.declared.moves.Move.{Move}
use Rattle.sdr_base.specs.declared.moves.Move.TheVariants.{Short, Took}
use Rattle.sdr_base.specs.declared.refusal.Refusal.{Refusal}
use Rattle.sdr_base.specs.declared.refusal.Refusal.TheVariants as refusals
use Rattle.sdr_base.specs.declared.stop.Stop.{Stop}
use Rattle.sdr_base.specs.declared.stop.Stop.TheVariants.{Refused, DiskFault, MediaFault, Failed}
use Rattle.sdr_base.proofs.GaveLemmas.{made_then}
use Rattle.sdr_base.proofs.StandingLemmas.{at-nowhere, times-append}
use Rattle.sdr_model.specs.declared.accounts.Ticket.{Ticket}
use Rattle.zco_acct.specs.Charges.{ChargesAccount, ChargeStops, charged}
use Rattle.zco_acct.specs.Kept.{KeepsQueue, queue_entries}
use Rattle.zco_acct.specs.Refusals.{Refuses}
use Rattle.zco_obj.specs.Charging.{IsFree, refusal_in}
use Rattle.zco_obj.specs.Extents.{extent_of}
use Rattle.zco_obj.specs.Gone.{NamedSource, sources_entries}
use Rattle.zco_obj.specs.Making.{empty_row}
use Rattle.zco_obj.specs.Reading.{Tells}
use Rattle.zco_obj.specs.declared.extent.ExtentPiece.{ExtentPiece}
use Rattle.zco_obj.proofs.CauseLemmas.{IsCause, is_cause}
use Rattle.zco_obj.proofs.ChargeLemmas.{charged_moves, charged_spare, free_before, pays, queue_of, stands_still}
use Rattle.zco_obj.proofs.PairLemmas.{swapped}
use Rattle.zco_obj.proofs.SpotLemmas.{times_head}
use Rattle.zco_ref.specs.Kept.{CountedSource, tied_entries}
use Rattle.zco_part.specs.Charging.{clone_amounts}
use Rattle.zco_part.specs.Cloning.{ChargesClone, CloneAllowed, ClonesPart, CloneStops, HasRange, IsCloned, KeepsToClone, OfCloned, SeesAsked, SomeToClone, StopsClone, TookFirst}
use Rattle.zco_part.specs.Copying.{CopiesChain, CopyAt, CopyStops, HasCopied, IsSmall, SomeCopy, parts, takes_extents}
use Rattle.zco_part.specs.Delimiting.{OfObject}
use Rattle.zco_part.specs.Pieces.{asked, extents_at, whole_row}
use Rattle.zco_part.specs.Sources.{all_counted, counted, more_uses, pieces_of}
use Rattle.zco_part.specs.declared.cloning.Asked.{Asked}
use Rattle.zco_part.proofs.AskedLemmas.{closed, extents_there, head, kept_object, opened, same_parts, tail}

-- what holds of each by two facts
all_both : {X : Type 0} (P Q R : X → Type 0) → ((x : X) → P x → Q x → R x) → (xs : List X) → All P xs → All Q xs → All R xs
all_both P Q R f [] p q = All-nil R
all_both P Q R f (x ∷ xs) p q =
    All-cons R x xs (f x (All-head P x xs p) (All-head Q x xs q)) (all_both P Q R f xs (All-tail P x xs p) (All-tail Q x xs q))

-- extents stand where they were put
pub placed_there : (prev : ℕ) (addrs : List ℕ) (ps : List ExtentPiece) → length addrs ≡ length ps →
    All (λ a. 1 ≤ times a (linked extent_addr extent_block prev 0 (extents_at addrs ps))) addrs
unfolding linked times
placed_there prev [] ps e = All-nil (λ a. 1 ≤ times a (linked extent_addr extent_block prev 0 (extents_at [] ps)))
placed_there prev (a ∷ as') [] e = absurd (omega (arith, e))
placed_there prev (a ∷ as') (p ∷ ps) e =
    let Q = λ (x : ℕ). 1 ≤ times x (linked extent_addr extent_block prev 0 (extents_at (a ∷ as') (p ∷ ps))) in
    let P = λ (x : ℕ). 1 ≤ times x (linked extent_addr extent_block a 0 (extents_at as' ps)) in
    All-cons Q a as'
    (times_head a a (extent_block prev (first_of extent_addr 0 (extents_at as' ps)) (extent_of a p))
    (linked extent_addr extent_block a 0 (extents_at as' ps)) refl)
    (All-weaker P Q (λ x le. omega (arith, le)) as' (placed_there a as' ps (omega (arith, e))))

-- so they do among the blocks of an object of theirs
pub whole_there : (clone : ℕ) (acct : Acct) (es : List ExtentRow) (a : ℕ) →
    times a (extent_entries es) ≤ times a (object_entries clone (whole_row acct es))
unfolding times
whole_there clone acct es a =
    let H = capsule_entries [] in
    let x = times-append a (H ++ extent_entries es) H in
    let y = times-append a H (extent_entries es) in omega (arith, x, y)

-- sources stand where they stood, however many extents they count
times-counted : (q : ℕ) (acct : Acct) (ps : List ExtentPiece) (ss : List NamedSource) →
    times q (sources_entries (all_counted acct ps ss)) ≡ times q (sources_entries ss)
unfolding times
times-counted q acct ps [] = refl
times-counted q acct ps (s ∷ ss) =
    let T = tied_entries s.addr (counted acct ps s).source s.bytes in
    let T' = tied_entries s.addr s.source s.bytes in
    let a = times-append q T (sources_entries (all_counted acct ps ss)) in
    let b = times-append q T' (sources_entries ss) in
    let c = same acct (pieces_of s.addr ps) s.source in
    let d = times-counted q acct ps ss in omega (arith, a, b, c, d)
  where
    same : (acct : Acct) (n : ℕ) (t : CountedSource) →
        times q (tied_entries s.addr (more_uses acct n t) s.bytes) ≡ times q (tied_entries s.addr t s.bytes)
    same accts.Inbound n t = refl
    same accts.Outbound n t = refl

-- the account of an object isn't charged for a clone
module _ (number : ℕ) {object offset bytes : ℕ} {acct : Acct} (seen : Asked) {old : Heap} (tells : Tells old.blocks object (λ row. row.account) acct)
    (v : SeesAsked old.blocks object offset bytes seen) (has : OfObject (HasRange offset bytes) object old) where
  module _ {row : ObjectRow} {tickets : List Ticket} {sources : List NamedSource} (k : KeepsToClone old object row tickets sources) where
    own : acct ≡ row.account
    own = tells.tells row (kept_object k)

    pub these : parts seen.span row.extents ≡ asked offset bytes row
    these = same_parts seen v (kept_object k)

    queue : KeepsQueue old row.account tickets
    queue = queue_of k.beside.keeps

    -- why it isn't
    stops_of : {new : Heap} {stop : Stop} → StopsClone acct number seen old new stop →
        ChargeStops row.account number (clone_amounts (asked offset bytes row)) old new stop
    stops_of {new} {stop} s =
        subst (λ a. ChargeStops a number (clone_amounts (asked offset bytes row)) old new stop) own
        (subst (λ ps. ChargeStops acct number (clone_amounts ps) old new stop) these
        (s.stops row.extents (extents_there k (v.first row (kept_object k)))))

  module _ (q : SomeToClone old object offset bytes) where
    cause : {refusal : Refusal} → Refuses old q.row.account
        (refusal_in old q.row.account number (clone_amounts (asked offset bytes q.row))) refusal → IsCause refusal
    cause {refusal} r =
        is_cause old q.row.account number (clone_amounts (asked offset bytes q.row)) q.tickets refusal
        (r.some q.tickets (queue q.keeps))

    pub uncharged : (new : Heap) (stop : Stop) → StopsClone acct number seen old new stop → CloneStops object number offset bytes old new stop
    uncharged new (Refused (refusals.BadAddress bad)) s = absurd (cause (stops_of q.keeps s).0)
    uncharged new (Refused (refusals.WrongKind bad kind)) s = absurd (cause (stops_of q.keeps s).0)
    uncharged new (Refused (refusals.BadRange at count most)) s = absurd (cause (stops_of q.keeps s).0)
    uncharged new (Refused (refusals.NoBlock missing)) s = absurd (cause (stops_of q.keeps s).0)
    uncharged new (Refused (refusals.LogFull lines room)) s =
        let u = (stops_of q.keeps s).1 in (
          record {
            kind = has.kind;
            holds = λ row tickets sources k. (has.holds row (kept_object k), (stops_of k s).0.none tickets (queue k));
          },
          record {
            addrs = [];
            few = record { kind = has.kind; holds = λ row tickets sources k. omega arith };
            moves = u.moves ∙ sym (append-nil old.moves);
            spare = let e = u.spare in omega (arith, e);
          },
        )
    uncharged new (Refused refusal) s = (
      record {
        kind = has.kind;
        holds = λ row tickets sources k. (has.holds row (kept_object k), (stops_of k s).0.some tickets (queue k));
      },
      (stops_of q.keeps s).1,
    )
    uncharged new DiskFault s = stops_of q.keeps s
    uncharged new MediaFault s = stops_of q.keeps s
    uncharged new Failed s = stops_of q.keeps s

  -- or it is
  module _ {mid : Heap} (c : ChargesClone acct number seen old mid) where
    module _ {row : ObjectRow} {tickets : List Ticket} {sources : List NamedSource} (k : KeepsToClone old object row tickets sources) where
      charge_of : ChargesAccount row.account number (clone_amounts (asked offset bytes row)) old mid
      charge_of =
          subst (λ a. ChargesAccount a number (clone_amounts (asked offset bytes row)) old mid) (own k)
          (subst (λ ps. ChargesAccount acct number (clone_amounts ps) old mid) (these k)
          (c.charges row.extents (extents_there k (v.first row (kept_object k)))))

      pub moves_then : mid.moves ≡ old.moves
      moves_then = charged_moves charge_of (queue k)

      pub spare_then : mid.spare ≡ old.spare
      spare_then = charged_spare charge_of (queue k)

      -- what stands behind the object and the sources then
      abbrev pub left : Entries
      left = queue_entries row.account (charged tickets number (clone_amounts (asked offset bytes row))) ++ k.beside.behind

      pub stands_then : BlocksAre mid.blocks (object_entries object row ++ (sources_entries sources ++ left))
      stands_then =
          let O = object_entries object row in
          let Q = queue_entries row.account tickets in
          let S = sources_entries sources in
          subst (λ (es : Entries). BlocksAre mid.blocks es) (append_assoc O S left)
          (stands_still charge_of (queue k) (O ++ S) k.beside.behind
          (subst (λ (es : Entries). BlocksAre old.blocks es) (sym (append_assoc O S (Q ++ k.beside.behind)))
          (swapped old.blocks O Q S k.beside.behind
          (subst (λ (rest : Entries). BlocksAre old.blocks (O ++ (Q ++ rest))) k.beside.whole k.beside.keeps.stands))))

    pub spare_enough : SomeToClone old object offset bytes → 1 ≤ mid.spare
    spare_enough q = let e = spare_then q.keeps in let r = q.room in omega (arith, e, r)

    allowed : OfCloned (CloneAllowed number offset bytes old) object old
    allowed = record {
      kind = has.kind;
      holds = λ row tickets sources k. (has.holds row (kept_object k), (charge_of k).allows.none tickets (queue k));
    }

    -- its block isn't taken
    pub not_made : SomeToClone old object offset bytes → (new : Heap) (stop : Stop) → OnlyShort 72 mid new stop →
        CloneStops object number offset bytes old new stop
    not_made q new (Refused (refusals.NoBlock missing)) s = (
      allowed,
      record {
        addrs = [];
        is = s.0;
        few = record { kind = has.kind; holds = λ row tickets sources k. omega arith };
        moves =
            ap (λ (h : Heap). h.moves) s.1 ∙ ap (λ (ms : List Move). ms ++ (Short 72 ∷ [])) (moves_then q.keeps)
            ∙ ap (λ n. old.moves ++ (Short n ∷ [])) (sym s.0);
        spare =
            let a : new.spare ≡ mid.spare - 1 = ap (λ (h : Heap). h.spare) s.1 in let e = spare_then q.keeps in omega (arith, a, e);
      },
    )
    not_made q new (Refused (refusals.LogFull lines room)) s = (allowed, by s.made s.first s.moves s.spare)
      where
        by : (made : List Move) → AreFirstOf (Took 72 s.addr ∷ []) made → new.moves ≡ mid.moves ++ made → new.spare ≡ mid.spare - length made →
            TookFirst object offset bytes old new
        by [] f m r = record {
          addrs = [];
          few = record { kind = has.kind; holds = λ row tickets sources k. omega arith };
          moves = m ∙ ap (λ (ms : List Move). ms ++ []) (moves_then q.keeps);
          spare = let e = spare_then q.keeps in omega (arith, r, e);
        }
        by (move ∷ moves) f m r =
            let one = only moves f.rest f.whole in
            record {
              addrs = s.addr ∷ [];
              few = record { kind = has.kind; holds = λ row tickets sources k. omega arith };
              moves =
                  m ∙ ap (λ (ms : List Move). mid.moves ++ ms) one ∙ ap (λ (ms : List Move). ms ++ (Took 72 s.addr ∷ [])) (moves_then q.keeps);
              spare = let e = spare_then q.keeps in let n = ap (length {A = Move}) one in omega (arith, r, e, n);
            }
          where
            only : {x y : Move} (ys zs : List Move) → x ∷ [] ≡ (y ∷ ys) ++ zs → y ∷ ys ≡ x ∷ []
            only [] zs w = cc
            only (z ∷ ys) zs w = absurd (cc)
    not_made q new (Refused refusal) s = absurd s
    not_made q new DiskFault s = s
    not_made q new MediaFault s = absurd s
    not_made q new Failed s = s

    -- or it is
    module _ {clone : ℕ} {made : Heap} (m : MakesThing 72 clone (object_entries clone (empty_row acct)) mid made) where
      -- the clone stands before the chain of extents and their sources
      module _ {row : ObjectRow} {tickets : List Ticket} {sources : List NamedSource} (k : KeepsToClone old object row tickets sources) where
        pub copy_at : (rest : Entries) → BlocksAre mid.blocks (object_entries object row ++ (sources_entries sources ++ rest)) →
            CopyAt clone row.account made.blocks seen.first row.extents sources
        copy_at rest s = record {
          rest = head object row ++ (tail object row ++ rest);
          stands =
              subst (λ a. BlocksAre made.blocks (object_entries clone (whole_row a [])
              ++ (sources_entries sources ++ (extent_entries row.extents ++ (head object row ++ (tail object row ++ rest)))))) (own k)
              (m.adds.changes.kept _ (opened object row mid.blocks (sources_entries sources) rest s));
          at_first = v.first row (kept_object k);
          fits = k.beside.keeps.fits.extents;
          few = let f = k.beside.keeps.fits.few in omega (arith, f);
          may = k.may;
        }

        pub copy_then : CopyAt clone row.account made.blocks seen.first row.extents sources
        copy_then = copy_at (left k) (stands_then k)

      made_moves : SomeToClone old object offset bytes → made.moves ≡ old.moves ++ (Took 72 clone ∷ [])
      made_moves q = ap (λ (h : Heap). h.moves) m.made.all ∙ ap (λ (ms : List Move). ms ++ (Took 72 clone ∷ [])) (moves_then q.keeps)

      made_spare : SomeToClone old object offset bytes → made.spare ≡ old.spare - 1
      made_spare q =
          let a : made.spare ≡ mid.spare - 1 = ap (λ (h : Heap). h.spare) m.made.all in let e = spare_then q.keeps in omega (arith, a, e)

      pub some_copy : SomeToClone old object offset bytes → SomeCopy clone made seen.first seen.span
      some_copy q = record {
        acct = q.row.account;
        extents = q.row.extents;
        sources = q.sources;
        is = copy_then q.keeps;
        room =
            let n = ap (length {A = ExtentPiece}) (these q.keeps) in let r = q.room in let s = made_spare q in omega (arith, n, r, s);
      }

      -- not all its extents were made
      pub not_copied : SomeToClone old object offset bytes → (new : Heap) (stop : Stop) → CopyStops clone seen.first seen.span made new stop →
          CloneStops object number offset bytes old new stop
      not_copied q new (Refused (refusals.NoBlock missing)) s = (
        allowed,
        record {
          addrs = clone ∷ s.addrs;
          is = s.is;
          few = record {
            kind = has.kind;
            holds = λ row tickets sources k.
                let f = s.few row.account row.extents sources (copy_then k) in
                let n = ap (length {A = ExtentPiece}) (these k) in omega (arith, f, n);
          };
          moves =
              s.moves ∙ ap (λ (ms : List Move). ms ++ (takes_extents s.addrs ++ (Short 32 ∷ []))) (made_moves q)
              ∙ append_assoc old.moves (Took 72 clone ∷ []) (takes_extents s.addrs ++ (Short 32 ∷ []))
              ∙ ap (λ n. old.moves ++ (Took 72 clone ∷ (takes_extents s.addrs ++ (Short n ∷ [])))) (sym s.is);
          spare = let a = s.spare in let e = made_spare q in omega (arith, a, e);
        },
      )
      not_copied q new (Refused (refusals.LogFull lines room)) s = (
        allowed,
        record {
          addrs = clone ∷ s.addrs;
          few = record {
            kind = has.kind;
            holds = λ row tickets sources k.
                let f = s.few row.account row.extents sources (copy_then k) in
                let n = ap (length {A = ExtentPiece}) (these k) in omega (arith, f, n);
          };
          moves =
              s.moves ∙ ap (λ (ms : List Move). ms ++ takes_extents s.addrs) (made_moves q)
              ∙ append_assoc old.moves (Took 72 clone ∷ []) (takes_extents s.addrs);
          spare = let a = s.spare in let e = made_spare q in omega (arith, a, e);
        },
      )
      not_copied q new (Refused refusal) s = absurd s
      not_copied q new DiskFault s = s
      not_copied q new MediaFault s = s
      not_copied q new Failed s = s

      -- or all were
      module _ {new : Heap} (n : CopiesChain clone seen.first seen.span made new) where
        module _ {row : ObjectRow} {tickets : List Ticket} {sources : List NamedSource} (k : KeepsToClone old object row tickets sources) where
          abbrev ps : List ExtentPiece
          ps = asked offset bytes row

          -- the clone's blocks
          abbrev own_entries : Entries
          own_entries = object_entries clone (whole_row row.account (extents_at n.addrs ps))

          has_copied : (rest : Entries) → BlocksAre mid.blocks (object_entries object row ++ (sources_entries sources ++ rest)) →
              HasCopied clone row.account n.addrs ps row.extents sources (head object row ++ (tail object row ++ rest)) new
          unfolding copy_at
          has_copied rest s =
              subst (λ qs. HasCopied clone row.account n.addrs qs row.extents sources (head object row ++ (tail object row ++ rest)) new) (these k)
              (n.copies row.account row.extents sources (copy_at k rest s))

          changes_all : Changes mid.blocks new.blocks (object_entries object row ++ sources_entries sources)
              (own_entries ++ (object_entries object row ++ sources_entries (all_counted row.account ps sources)))
          changes_all = record {
            kept = λ rest s.
                let O = object_entries object row in
                let S = sources_entries sources in
                let S' = sources_entries (all_counted row.account ps sources) in
                let h = has_copied rest (subst (λ (es : Entries). BlocksAre mid.blocks es) (append_assoc O S rest) s) in
                subst (λ (es : Entries). BlocksAre new.blocks es)
                (ap (λ (es : Entries). own_entries ++ es) (sym (append_assoc O S' rest)) ∙ sym (append_assoc own_entries (O ++ S') rest))
                (closed object row new.blocks own_entries S' rest h.stands);
          }

          is_cloned : IsCloned object number offset bytes clone n.addrs old new row tickets sources
          is_cloned = record {
            each = (has_copied (left k) (stands_then k)).each;
            pays = pays (charge_of k) (queue k) changes_all (made_then (Took 72 clone ∷ []) (takes_extents n.addrs) m.made n.made);
          }

          -- an extent's block is new
          new_extent : (a : ℕ) → IsSmall a → 1 ≤ times a (extent_entries (extents_at n.addrs ps)) → IsFree old.blocks a
          new_extent a small some =
              let S = sources_entries sources in
              let S' = sources_entries (all_counted row.account ps sources) in
              let R = extent_entries row.extents ++ (head object row ++ (tail object row ++ left k)) in
              let now = (has_copied (left k) (stands_then k)).stands in
              let before = opened object row mid.blocks S (left k) (stands_then k) in
              let there = whole_there clone row.account (extents_at n.addrs ps) a in
              let one = now.once a in
              let x = times-append a own_entries (S' ++ R) in
              let y = times-append a S' R in
              let z = times-append a S R in
              let d = times-counted a row.account ps sources in
              let nowhere : times a (S ++ R) ≡ 0 = omega (arith, one, x, y, z, d, there, some) in
              free_before (charge_of k) (queue k)
              (λ e. let null = subst (λ p. times p (own_entries ++ (S' ++ R)) ≡ 0) (sym e) now.null in absurd (omega (arith, null, x, there, some)))
              small (before.same a ∙ at-nowhere a (S ++ R) nowhere)

        pub clones : SomeToClone old object offset bytes → ClonesPart object number offset bytes old new clone
        clones q = record {
          has = has;
          new_block = free_before (charge_of q.keeps) (queue q.keeps) m.adds.nonzero m.adds.small m.adds.fresh;
          addrs = n.addrs;
          new_blocks =
              all_both IsSmall (λ a. 1 ≤ times a (extent_entries (extents_at n.addrs (asked offset bytes q.row)))) (IsFree old.blocks)
              (λ a small some. new_extent q.keeps a small some) n.addrs n.small
              (placed_there 0 n.addrs (asked offset bytes q.row) (is_cloned q.keeps).each);
          clones = λ row tickets sources k. is_cloned k;
        }
