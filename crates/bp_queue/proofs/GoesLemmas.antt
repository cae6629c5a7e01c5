-- Those that are overdue go one after another, by calls on a state that has a heap.
use Rattle.std.proofs.Common.{◌≡◌, ℕ, ◌+◌, ◌-◌, ◌*◌, ◌≤◌, Bool, true, false, List, [], ◌∷◌, ◌++◌, length, refl, sym, ap, ◌∙◌, subst, arith, append_assoc, append-nil, length-append}
use Rattle.std.specs.Prelude.{Ok, fold, map}
use Rattle.std.proofs.lemmas.List.{length-map}
use Rattle.sdr_base.specs.Entries.{Entries}
use Rattle.sdr_base.specs.Making.{GaveSome, besides}
use Rattle.sdr_base.specs.Moves.{KeepsSome}
use Rattle.sdr_base.specs.Objects.{Heap}
use Rattle.sdr_base.specs.Works.{Looks, Spends}
use Rattle.sdr_base.specs.ZcoObjects.{ExtentRow, ObjectRow, capsule_addr}
use Rattle.sdr_base.specs.declared.has_heap.HasHeap.{Ghosts}
use Rattle.sdr_base.specs.declared.moves.Move.{Move}
use Rattle.sdr_base.specs.declared.refusal.Refusal.TheVariants as refusals
use Rattle.sdr_base.specs.declared.stop.Stop.{Stop}
use Rattle.sdr_base.specs.declared.stop.Stop.TheVariants.{Refused, DiskFault, MediaFault, Failed}
use Rattle.sdr_base.proofs.GaveLemmas.{gave_spare, none_made, some_then}
use Rattle.sdr_base.proofs.WorksLemmas.{looks_works, works_more, works_ok, works_then}
use Rattle.sdr_list.specs.Calls.{TellsOfList}
use Rattle.zco_obj.specs.Destroying.{charges_of, gone_object, parts_lines}
use Rattle.zco_obj.specs.Gone.{NamedSource, going_before, gone_blocks, source_at}
use Rattle.zco_obj.specs.Uses.{AreNamed}
use Rattle.bp_queue.specs.Expiring.{Expired, ExpireStops, ExpiresAll, ExpiresFirst, Expiry, FirstExpires, FirstGives, FirstStops, KeepsOverdue, SomeOverdue, expire_one, expiry_of, extents_of, first_lines, gone_with, object_for}
use Rattle.bp_queue.specs.Kept.{Row, line_element, waiting_of}
use Rattle.bp_queue.specs.Removing.{item_blocks}
use Rattle.bp_queue.specs.States.{line_of, overdue, without}
use Rattle.bp_queue.specs.declared.queues.Queues.{Queues}
use Rattle.bp_queue.proofs.DueLemmas.{gone_then, later_left, others_due}
use Rattle.bp_queue.proofs.ExpireLemmas.{Come, counts, done, gone_before, gone_heap, together_more}
use Rattle.bp_queue.proofs.QueueLemmas.{line_list}
use Rattle.bp_queue.proofs.StateLemmas.{length-line}

-- each extent goes
extents_gone : (sources : List NamedSource) (all es : List ExtentRow) → length es ≤ length (gone_blocks sources all es)
extents_gone sources all [] = omega arith
extents_gone sources all (e ∷ es) =
    let ih = extents_gone sources all es in
    let l = length-append (going_before all es (source_at e.source sources)) (e.addr ∷ gone_blocks sources all es) in
    omega (arith, ih, l)

-- the lines that the going of one touches are few, for its blocks
lines_fit : (object_at : ℕ → ObjectRow) (sources : List NamedSource) (r : Row) →
    111 + parts_lines (object_for object_at r) sources ≤ 96 * length (gone_with object_at sources r)
lines_fit object_at sources r =
    let z = object_for object_at r in
    let H = map capsule_addr z.headers in
    let G = gone_blocks sources z.extents z.extents in
    let T = map capsule_addr z.trailers in
    let e = extents_gone sources z.extents z.extents in
    let a = length-append (item_blocks r) (gone_object r.waiting.object z sources) in
    let b = length-append ((H ++ G) ++ T) (r.waiting.object ∷ []) in
    let c = length-append (H ++ G) T in
    let d = length-append H G in
    let h = length-map z.headers capsule_addr in
    let t = length-map z.trailers capsule_addr in
    omega (arith, e, a, b, c, d, h, t)

-- How far an expiry has come in some queues that are kept, and so many lines were touched at most.
pub record Gone {S : Type 0} (m : Ghosts S) (q : Queues) (now next : ℕ) (rows : List Row) (object_at : ℕ → ObjectRow)
    (sources : List NamedSource) (rest : Entries) (old new : S) (i : ℕ) : Type 0 where
  pub come : Come q now next rows object_at sources rest (m.heap old) (m.heap new) i
  pub works : Spends {T = ℕ} m (96 * length come.so_far.gone) old new (Ok 0)

-- so it is in whichever queues are kept
pub record Goes {S : Type 0} (m : Ghosts S) (q : Queues) (now : ℕ) (old new : S) (i : ℕ) : Type 0 where
  pub goes : (next : ℕ) (rows : List Row) (object_at : ℕ → ObjectRow) (sources : List NamedSource) (rest : Entries) →
      KeepsOverdue (m.heap old).blocks q now next rows object_at sources rest → Gone m q now next rows object_at sources rest old new i

module _ {S : Type 0} (m : Ghosts S) (q : Queues) (now : ℕ) where
  pub goes_begun : {old new : S} {T : Type 0} {v : T} → Looks m old new (Ok v) → Goes m q now old new 0
  goes_begun {old} {new} l = record {
    goes = λ next rows object_at sources rest k. record {
      come = record {
        left = rows;
        so_far = record { gone = []; sources = sources; rest = rest; heap = m.heap old };
        keeps = subst (λ (h : Heap). KeepsOverdue h.blocks q now next rows object_at sources rest) (sym l.same) k;
        named = λ acct more n. n;
        others = ap besides l.same ∙ (none_made (m.heap old)).all;
        moves = refl;
        spare = refl;
        comes_to = refl;
        later = refl;
        counted = omega arith;
      };
      works = works_ok (works_more (looks_works l) (omega arith));
    };
  }

  module _ {old mid : S} {i : ℕ} (g : Goes m q now old mid i) where
    -- there is a heap still
    pub goes_kept : SomeOverdue (m.heap old) q now → KeepsSome (m.keeps mid)
    goes_kept s = (g.goes s.next s.rows s.object_at s.sources s.rest s.keeps).works.kept

    -- there is room for those that are left
    pub goes_room : SomeOverdue (m.heap old) q now → SomeOverdue (m.heap mid) q now
    goes_room s =
        let c = (g.goes s.next s.rows s.object_at s.sources s.rest s.keeps).come in
        let e = c.so_far in
        let left = overdue waiting_of now c.left in
        let all : (expiry_of now s.rows s.object_at s.sources s.rest (m.heap old)).gone
        ≡ e.gone ++ (fold (expire_one s.object_at) (record e { gone = [] }) left).gone =
        ap (λ (x : Expiry). x.gone) (sym c.comes_to)
        ∙ ap (λ (addrs : List ℕ). (fold (expire_one s.object_at) (record e { gone = addrs }) left).gone) (sym (append-nil e.gone))
        ∙ gone_before s.object_at (record e { gone = [] }) e.gone left in
        let own = gone_heap s.object_at (record e { gone = [] }) (m.heap mid) left in
        let n = ap (length {A = ℕ}) all in
        let o = ap (length {A = ℕ}) own in
        let a = length-append e.gone (fold (expire_one s.object_at) (record e { gone = [] }) left).gone in
        let r = s.room in
        let spare = gave_spare {old = e.heap} {new = m.heap mid} e.gone (record { all = c.others }) in
        let same = c.spare in
        record {
          next = s.next;
          rows = c.left;
          object_at = s.object_at;
          sources = e.sources;
          rest = e.rest;
          keeps = c.keeps;
          room = omega (arith, n, o, a, r, spare, same);
        }

    -- what one more touches is within what all touch
    pub lines_left : {next : ℕ} {rows : List Row} {object_at : ℕ → ObjectRow} {sources : List NamedSource} {rest : Entries} →
        (k : KeepsOverdue (m.heap old).blocks q now next rows object_at sources rest) →
        (let c = (g.goes next rows object_at sources rest k).come in
        96 * length c.so_far.gone + first_lines (overdue waiting_of now c.left) object_at c.so_far.sources
        ≤ 96 * length (expiry_of now rows object_at sources rest (m.heap old)).gone)
    lines_left {next} {rows} {object_at} {sources} {rest} k =
        let c = (g.goes next rows object_at sources rest k).come in by c (overdue waiting_of now c.left) refl
      where
        by : (c : Come q now next rows object_at sources rest (m.heap old) (m.heap mid) i) (left : List Row) →
            overdue waiting_of now c.left ≡ left →
            96 * length c.so_far.gone + first_lines (overdue waiting_of now c.left) object_at c.so_far.sources
            ≤ 96 * length (expiry_of now rows object_at sources rest (m.heap old)).gone
        by c [] none =
            let n = ap (λ (xs : List Row). first_lines xs object_at c.so_far.sources) none in
            let e = ap (λ (x : Expiry). length x.gone) (sym (ap (fold (expire_one object_at) c.so_far) none) ∙ c.comes_to) in
            omega (arith, n, e)
        by c (r ∷ left) some =
            let n = ap (λ (xs : List Row). first_lines xs object_at c.so_far.sources) some in
            let f = lines_fit object_at c.so_far.sources r in
            let l = length-append c.so_far.gone (gone_with object_at c.so_far.sources r) in
            let one = expire_one object_at c.so_far r in
            let e = ap (λ (x : Expiry). length x.gone) (sym (ap (fold (expire_one object_at) c.so_far) some) ∙ c.comes_to) in
            let a =
            ap (length {A = ℕ})
            (ap (λ (addrs : List ℕ). (fold (expire_one object_at) (record one { gone = addrs }) left).gone) (sym (append-nil one.gone))
            ∙ gone_before object_at (record one { gone = [] }) one.gone left) in
            let b = length-append one.gone (fold (expire_one object_at) (record one { gone = [] }) left).gone in
            omega (arith, n, f, l, e, a, b)

    module _ (new : S) where
      -- one more has gone
      pub goes_on : ExpiresFirst q now (m.heap mid) (m.heap new) true →
          ((next : ℕ) (rows : List Row) (object_at : ℕ → ObjectRow) (sources : List NamedSource) (rest : Entries) →
          KeepsOverdue (m.heap mid).blocks q now next rows object_at sources rest →
          Spends {T = Bool} m (first_lines (overdue waiting_of now rows) object_at sources) mid new (Ok true)) → Goes m q now old new (i + 1)
      goes_on f w = record {
        goes = λ next rows object_at sources rest k.
            let s = g.goes next rows object_at sources rest k in
            let e = s.come.so_far in
            by s (overdue waiting_of now s.come.left) refl (f.expires next s.come.left object_at e.sources e.rest s.come.keeps)
            (w next s.come.left object_at e.sources e.rest s.come.keeps);
      }
        where
          by : {next : ℕ} {rows : List Row} {object_at : ℕ → ObjectRow} {sources : List NamedSource} {rest : Entries}
              (s : Gone m q now next rows object_at sources rest old mid i) (left : List Row) → overdue waiting_of now s.come.left ≡ left →
              FirstExpires left q now next s.come.left object_at s.come.so_far.sources s.come.so_far.rest (m.heap mid) (m.heap new) true →
              Spends {T = Bool} m (first_lines (overdue waiting_of now s.come.left) object_at s.come.so_far.sources) mid new (Ok true) →
              Gone m q now next rows object_at sources rest old new (i + 1)
          by s [] none e w = absurd (let x : true ≡ false = e.0 in cc)
          by {next} {rows} {object_at} {sources} {rest} s (r ∷ left) some e w =
              let c = s.come in
              let z = object_for object_at r in
              let behind = others_due c.keeps r left some in
              record {
                come = record {
                  left = without waiting_of r.waiting.object c.left;
                  so_far = expire_one object_at c.so_far r;
                  keeps = e.1.keeps;
                  named = λ acct more n.
                      subst (λ (xs : List Row). AreNamed acct (extents_of object_at acct xs ++ more) (expire_one object_at c.so_far r).sources)
                      (sym behind)
                      (e.1.named acct (extents_of object_at acct left ++ more)
                      (subst (λ (es : List ExtentRow). AreNamed acct es c.so_far.sources)
                      (ap (λ (xs : List Row). extents_of object_at acct xs ++ more) some ∙ together_more object_at acct r left more)
                      (c.named acct more n)));
                  others =
                      e.1.others
                      ∙ gone_then (m.heap mid) z.account (charges_of z c.so_far.sources) c.so_far.gone (gone_with object_at c.so_far.sources r)
                      c.so_far.heap c.others;
                  moves = c.moves;
                  spare = c.spare;
                  comes_to =
                      ap (fold (expire_one object_at) (expire_one object_at c.so_far r)) behind
                      ∙ sym (ap (fold (expire_one object_at) c.so_far) some) ∙ c.comes_to;
                  later = later_left c.keeps r left some ∙ c.later;
                  counted =
                      let n = c.counted in let l = ap (length {A = Row}) some in let d = ap (length {A = Row}) behind in
                      omega (arith, n, l, d);
                };
                works =
                    let n = ap (λ (xs : List Row). first_lines xs object_at c.so_far.sources) some in
                    let f = lines_fit object_at c.so_far.sources r in
                    let l = length-append c.so_far.gone (gone_with object_at c.so_far.sources r) in
                    works_ok (works_more (works_then s.works w) (omega (arith, n, f, l)));
              }

      -- none was overdue any more
      pub goes_none : ExpiresFirst q now (m.heap mid) (m.heap new) false → ExpiresAll q now (m.heap old) (m.heap new) i
      goes_none f = record {
        expires = λ next rows object_at sources rest k.
            let c = (g.goes next rows object_at sources rest k).come in
            by c (overdue waiting_of now c.left) refl (f.expires next c.left object_at c.so_far.sources c.so_far.rest c.keeps);
      }
        where
          by : {next : ℕ} {rows : List Row} {object_at : ℕ → ObjectRow} {sources : List NamedSource} {rest : Entries}
              (c : Come q now next rows object_at sources rest (m.heap old) (m.heap mid) i) (left : List Row) →
              overdue waiting_of now c.left ≡ left →
              FirstExpires left q now next c.left object_at c.so_far.sources c.so_far.rest (m.heap mid) (m.heap new) false →
              Expired q now next rows object_at sources (expiry_of now rows object_at sources rest (m.heap old)) (m.heap old) (m.heap new) i
          by {next} {rows} {object_at} {sources} {rest} c [] none e =
              subst (λ (h : Heap). Expired q now next rows object_at sources (expiry_of now rows object_at sources rest (m.heap old)) (m.heap old) h i) (sym e.1)
              (done c none)
          by c (r ∷ left) some e = absurd (let x : false ≡ true = e.0 in cc)

      -- why the others don't go
      pub goes_stopped : (stop : Stop) → FirstStops q now (m.heap mid) (m.heap new) stop → ExpireStops q now (m.heap old) (m.heap new) stop
      goes_stopped (Refused (refusals.LogFull lines room)) u = record {
        gives = λ next rows object_at sources rest k.
            let c = (g.goes next rows object_at sources rest k).come in
            by c (overdue waiting_of now c.left) refl (u.gives next c.left object_at c.so_far.sources c.so_far.rest c.keeps);
      }
        where
          by : {next : ℕ} {rows : List Row} {object_at : ℕ → ObjectRow} {sources : List NamedSource} {rest : Entries}
              (c : Come q now next rows object_at sources rest (m.heap old) (m.heap mid) i) (left : List Row) →
              overdue waiting_of now c.left ≡ left → FirstGives left object_at c.so_far.sources (m.heap mid) (m.heap new) →
              GaveSome (expiry_of now rows object_at sources rest (m.heap old)).gone (m.heap old) (m.heap new)
          by c [] none s = absurd s
          by {next} {rows} {object_at} {sources} {rest} c (r ∷ left) some s =
              let one = expire_one object_at c.so_far r in
              let later = (fold (expire_one object_at) (record one { gone = [] }) left).gone in
              let all : c.so_far.gone ++ (gone_with object_at c.so_far.sources r ++ later)
              ≡ (expiry_of now rows object_at sources rest (m.heap old)).gone =
              sym (append_assoc c.so_far.gone (gone_with object_at c.so_far.sources r) later)
              ∙ sym (ap (λ (x : Expiry). x.gone) (sym c.comes_to ∙ ap (fold (expire_one object_at) c.so_far) some)
              ∙ ap (λ (addrs : List ℕ). (fold (expire_one object_at) (record one { gone = addrs }) left).gone) (sym (append-nil one.gone))
              ∙ gone_before object_at (record one { gone = [] }) one.gone left) in
              let t = some_then {old = c.so_far.heap} {mid = m.heap mid} {new = m.heap new} c.so_far.gone (gone_with object_at c.so_far.sources r) later
              (record { all = c.others }) s in
              subst (λ (addrs : List ℕ). GaveSome addrs (m.heap old) (m.heap new)) all
              (record {
                made = t.made;
                first = t.first;
                moves = t.moves ∙ ap (λ (ms : List Move). ms ++ t.made) c.moves;
                spare = t.spare ∙ ap (λ (n : ℕ). n - length t.made) c.spare;
              })
      goes_stopped (Refused refusal) u = u
      goes_stopped DiskFault u = u
      goes_stopped MediaFault u = u
      goes_stopped Failed u = u

    -- as many have gone as waited
    no_more : {count next : ℕ} {rows : List Row} {object_at : ℕ → ObjectRow} {sources : List NamedSource} {rest : Entries} →
        TellsOfList q.line (λ row. length row.elements) (m.heap old).blocks count → i ≡ count →
        (k : KeepsOverdue (m.heap old).blocks q now next rows object_at sources rest) →
        overdue waiting_of now (g.goes next rows object_at sources rest k).come.left ≡ []
    no_more {count} {next} {rows} {object_at} {sources} {rest} t all k =
        let c = (g.goes next rows object_at sources rest k).come in
        let a = t.tells _ (line_list k.keeps) ∙ length-map (line_of waiting_of rows) line_element in
        let b = length-line waiting_of rows in
        let d = counts now rows in
        let n = c.counted in
        empty (overdue waiting_of now c.left) (omega (arith, a, b, d, n, all))
      where
        empty : (xs : List Row) → length xs ≡ 0 → xs ≡ []
        empty [] z = refl
        empty (x ∷ xs) z = absurd (omega (arith, z))

    pub goes_all : {count : ℕ} → TellsOfList q.line (λ row. length row.elements) (m.heap old).blocks count → i ≡ count →
        ExpiresAll q now (m.heap old) (m.heap mid) i
    goes_all t all = record {
      expires = λ next rows object_at sources rest k. done (g.goes next rows object_at sources rest k).come (no_more t all k);
    }
