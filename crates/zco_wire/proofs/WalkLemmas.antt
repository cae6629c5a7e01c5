-- Chains of headers, of trailers and of extents that are gone over.
use Rattle.std.proofs.Common.{◌≡◌, ◌≢◌, ◌≤◌, ◌+◌, ◌-◌, ℕ, List, [], ◌∷◌, ◌++◌, Option, Some, length, refl, sym, ap, ◌∙◌, subst, arith, append_assoc, append-nil, length-append}
use Rattle.std.specs.Prelude.{All, None}
use Rattle.std.proofs.lemmas.List.{map-append}
use Rattle.std.proofs.lemmas.List.Elements.{All-head, All-tail}
use Rattle.sdr_base.specs.Blocks.{Block, Blocks}
use Rattle.sdr_base.specs.Linked.{first_of, last_of}
use Rattle.sdr_base.specs.Media.{Told}
use Rattle.sdr_base.specs.Objects.{OnlyFault}
use Rattle.sdr_base.specs.declared.media.Media.{Ghosts}
use Rattle.sdr_base.specs.declared.stop.Stop.{Stop}
use Rattle.sdr_machine.specs.Asked.{count_outside}
use Rattle.sdr_gather.specs.Gathering.{Gathering}
use Rattle.sdr_base.specs.ZcoObjects.{CapsuleRow, ExtentRow, capsule_addr, capsule_block, extent_addr, extent_block}
use Rattle.sdr_model.specs.declared.piece.Piece.{Piece}
use Rattle.sdr_model.specs.declared.piece.Piece.TheVariants as pieces
use Rattle.zco_obj.specs.Kept.{CapsuleFits, ExtentFits}
use Rattle.zco_obj.specs.Walks.{CapsulesAt, ChainAt, ExtentsAt, KeepsCapsule, KeepsExtent, Passed, SeesCapsule, SomeCapsule, SomeExtent}
use Rattle.zco_obj.specs.declared.seeing.SeenCapsule.{SeenCapsule}
use Rattle.zco_obj.proofs.KeptLemmas.{first_capsule, first_extent}
use Rattle.zco_obj.proofs.WalkLemmas.{fits_left, has_first, none_at_zero, one_found}
use Rattle.zco_obj.specs.declared.extent.ExtentPiece.{ExtentPiece as Range}
use Rattle.zco_wire.specs.Asking.{AsksAtNamed, AsksAtRange, AsksFor}
use Rattle.zco_wire.specs.Going.{GoesOverPieces, GoesOverHead, GoesOverHeads, GoesOverNamed, GoesOverRange, WalksHeads, WalksNamed, ahead}
use Rattle.zco_wire.specs.Naming.{AreNamed, IsNamed, NamesAt, SomeNamed, head_pieces}
use Rattle.zco_obj.specs.Links.{SeesLink}
use Rattle.zco_wire.specs.Stopping.{KeepsTold, StopsAtNamed, StopsAtRange, StopsPieces}
use Rattle.zco_wire.specs.declared.cursor.Cursor.{Cursor}
use Rattle.zco_obj.specs.declared.link.Link.{Link}
use Rattle.zco_wire.proofs.GoingLemmas.{count_more, goes_full, goes_none, goes_trans}
use Rattle.zco_wire.proofs.NamingLemmas.{NamedFirst, named_first, named_none}
use Rattle.zco_wire.proofs.StoppingLemmas.{only_fault, stops_later}

-- the next one of a chain that is walked
pub record Next {X : Type 0} (P : X → Type 0) (addr : X → ℕ) (block : ℕ → ℕ → X → Block) (xs : List X) (here : Option Block)
    (passed left : List X) : Type 0 where
  pub one : X
  pub behind : List X
  pub is : left ≡ one ∷ behind
  pub whole : xs ≡ passed ++ (one ∷ behind)
  pub found : here ≡ Some (block 0 (first_of addr 0 behind) one)
  pub fits : P one
  pub rest : All P behind

module _ {X : Type 0} (P : X → Type 0) (addr : X → ℕ) (block : ℕ → ℕ → X → Block) (any : (p n : ℕ) (x : X) → block p n x ≡ block 0 n x)
    {blocks : Blocks} {first : ℕ} {xs : List X} (c : ChainAt P addr block blocks first xs) where
  pub next_of : {cursor i : ℕ} (w : Passed addr xs cursor i) → cursor ≢ 0 → Next P addr block xs (blocks cursor) w.passed w.left
  next_of {cursor} {i} w nz =
      let h = has_first addr w.left (λ z. nz (w.at_cursor ∙ z)) in
      let whole : xs ≡ w.passed ++ (h.one ∷ h.behind) = w.whole ∙ ap (λ (l : List X). w.passed ++ l) h.is in
      let here : cursor ≡ addr h.one = w.at_cursor ∙ ap (first_of addr 0) h.is in
      let fits = fits_left P addr block c w.passed (h.one ∷ h.behind) whole in
      let n = first_of addr 0 h.behind in
      record {
        one = h.one;
        behind = h.behind;
        is = h.is;
        whole = whole;
        found = ap blocks here ∙ one_found P addr block c w.passed h.one h.behind whole ∙ ap (λ b. Some b) (any (last_of addr 0 w.passed) n h.one);
        fits = All-head P h.one h.behind fits;
        rest = All-tail P h.one h.behind fits;
      }

  -- none is left at the chain's end, nor where as many were passed as there may be
  pub over_at_zero : {cursor i : ℕ} (w : Passed addr xs cursor i) → cursor ≡ 0 → w.left ≡ []
  over_at_zero w z = none_at_zero P addr block c w.passed w.left w.whole w.at_cursor z

  pub over_at_most : {cursor i : ℕ} (w : Passed addr xs cursor i) → i ≡ 4194304 → w.left ≡ []
  over_at_most w all =
      let l = length-append w.passed w.left in let e = ap (length {A = X}) w.whole in let k = w.counted in let few = c.few in
      absurd (omega (arith, l, e, k, few, all))

  abbrev pub walk_begun : Passed addr xs first 0
  walk_begun = record { passed = []; left = xs; whole = refl; counted = refl; at_cursor = c.at_first }

  -- one more was passed
  abbrev pub walk_on : {cursor i : ℕ} (w : Passed addr xs cursor i) (n : Next P addr block xs (blocks cursor) w.passed w.left) (next : ℕ) →
      next ≡ first_of addr 0 n.behind → Passed addr xs next (i + 1)
  walk_on {cursor} {i} w n next e = record {
    passed = w.passed ++ (n.one ∷ []);
    left = n.behind;
    whole = n.whole ∙ sym (append_assoc w.passed (n.one ∷ []) n.behind);
    counted = let l = length-append w.passed (n.one ∷ []) in let k = w.counted in omega (arith, l, k);
    at_cursor = e;
  }

-- headers or trailers
module _ {blocks : Blocks} {rows : List CapsuleRow} {first : ℕ} (c : CapsulesAt blocks first rows) where
  abbrev next_head : {head i : ℕ} (w : Passed capsule_addr rows head i) → head ≢ 0 →
      Next CapsuleFits capsule_addr capsule_block rows (blocks head) w.passed w.left
  next_head w nz = next_of CapsuleFits capsule_addr capsule_block (λ p n x. refl) c w nz

  head_keeps : {head i : ℕ} (w : Passed capsule_addr rows head i) (nz : head ≢ 0) →
      KeepsCapsule (blocks head) (first_of capsule_addr 0 (next_head w nz).behind) (next_head w nz).one
  head_keeps w nz =
      let n = next_head w nz in record { block = n.found; fits = n.fits; small = first_capsule n.behind n.rest }

module _ {blocks : Blocks} {first : ℕ} where
  pub heads_start : (at : Cursor) (into : List ℕ) → at.given ≤ length into → WalksHeads blocks first first 0 at at into into
  heads_start at into room = record {
    walks = λ told rows c. record {
      walk = walk_begun CapsuleFits capsule_addr capsule_block (λ p n x. refl) c;
      goes = goes_none told at into room;
    };
  }

  module _ {head i : ℕ} {at now : Cursor} {into into' : List ℕ} (w : WalksHeads blocks first head i at now into into') where
    pub some_head : {rows : List CapsuleRow} → CapsulesAt blocks first rows → head ≢ 0 → SomeCapsule (blocks head)
    some_head {rows} c nz =
        let v = w.walks None rows c in
        record {
          next = first_of capsule_addr 0 (next_head c v.walk nz).behind;
          capsule = (next_head c v.walk nz).one;
          keeps = head_keeps c v.walk nz;
        }

    pub heads_on : {after : Cursor} {into'' : List ℕ} (seen : SeenCapsule) → head ≢ 0 → SeesCapsule (blocks head) seen →
        GoesOverHead (blocks head) now after into' into'' → length into' ≡ length into →
        WalksHeads blocks first seen.next (i + 1) at after into into''
    heads_on {after} {into''} seen nz s g same = record {
      walks = λ told rows c.
          let v = w.walks told rows c in
          let n = next_head c v.walk nz in
          let next = first_of capsule_addr 0 n.behind in
          let keeps = head_keeps c v.walk nz in
          record {
            walk = walk_on CapsuleFits capsule_addr capsule_block (λ p n x. refl) c v.walk n seen.next (s.next next n.one keeps);
            goes =
                subst (λ (ps : List Piece). GoesOverPieces told ps at after into into'') (sym (map-append (λ (x : CapsuleRow). pieces.Known x.text) v.walk.passed (n.one ∷ [])))
                (goes_trans v.goes (g.goes told next n.one keeps) same);
          };
    }

    -- all were gone over, or what is left has no room
    heads_over : ((rows : List CapsuleRow) (told : Option Told) (c : CapsulesAt blocks first rows) → (w.walks told rows c).walk.left ≡ []) →
        GoesOverHeads blocks first at now into into'
    heads_over none = record {
      goes = λ told rows c.
          let v = w.walks told rows c in
          let all : rows ≡ v.walk.passed =
          v.walk.whole ∙ ap (λ (l : List CapsuleRow). v.walk.passed ++ l) (none rows told c) ∙ append-nil v.walk.passed in
          subst (λ (l : List CapsuleRow). GoesOverPieces told (head_pieces l) at now into into') (sym all) v.goes;
    }

    pub heads_at_zero : head ≡ 0 → GoesOverHeads blocks first at now into into'
    heads_at_zero z =
        heads_over (λ rows told c. over_at_zero CapsuleFits capsule_addr capsule_block (λ p n x. refl) c (w.walks told rows c).walk z)

    pub heads_at_most : i ≡ 4194304 → GoesOverHeads blocks first at now into into'
    heads_at_most all =
        heads_over (λ rows told c. over_at_most CapsuleFits capsule_addr capsule_block (λ p n x. refl) c (w.walks told rows c).walk all)

    pub heads_at_full : now.given ≡ length into' → length into' ≡ length into → GoesOverHeads blocks first at now into into'
    heads_at_full full same = record {
      goes = λ told rows c.
          let v = w.walks told rows c in
          let split : head_pieces rows ≡ head_pieces v.walk.passed ++ head_pieces v.walk.left =
          ap head_pieces v.walk.whole ∙ map-append (λ (x : CapsuleRow). pieces.Known x.text) v.walk.passed v.walk.left in
          subst (λ (ps : List Piece). GoesOverPieces told ps at now into into') (sym split)
          (goes_trans v.goes (goes_full told (head_pieces v.walk.left) now into' full) same);
    }

-- extents
module _ {blocks : Blocks} {extents : List ExtentRow} {first : ℕ} (c : ExtentsAt blocks first extents) where
  abbrev next_extent : {extent i : ℕ} (w : Passed extent_addr extents extent i) → extent ≢ 0 →
      Next ExtentFits extent_addr extent_block extents (blocks extent) w.passed w.left
  next_extent w nz = next_of ExtentFits extent_addr extent_block (λ p n x. refl) c w nz

  extent_keeps : {extent i : ℕ} (w : Passed extent_addr extents extent i) (nz : extent ≢ 0) →
      KeepsExtent (blocks extent) (first_of extent_addr 0 (next_extent w nz).behind) (next_extent w nz).one
  extent_keeps w nz =
      let n = next_extent w nz in record { block = n.found; fits = n.fits; small = first_extent n.behind n.rest }

module _ {M : Type 0} {m : Ghosts M} {before : M} {blocks : Blocks} {first : ℕ} where
  pub named_start : (at : Cursor) (into : List ℕ) → at.given ≤ length into → WalksNamed m before before blocks first first 0 at at into into
  named_start at into room = record {
    walks = λ extents named c. record {
      walk = walk_begun ExtentFits extent_addr extent_block (λ p n x. refl) c.chain;
      done = [];
      left = named;
      whole = refl;
      are = c.are;
      goes = goes_none (m.told before) at into room;
      asks = omega arith;
    };
  }

  module _ {mid : M} {extent i : ℕ} {at now : Cursor} {into into' : List ℕ}
      (w : WalksNamed m before mid blocks first extent i at now into into') where
    pub some_extent : {extents : List ExtentRow} {named : List Piece} → NamesAt blocks first extents named → extent ≢ 0 →
        SomeExtent (blocks extent)
    some_extent {extents} {named} c nz =
        let v = w.walks extents named c in
        record {
          next = first_of extent_addr 0 (next_extent c.chain v.walk nz).behind;
          extent = (next_extent c.chain v.walk nz).one;
          keeps = extent_keeps c.chain v.walk nz;
        }

    -- what it names
    first_named : {extents : List ExtentRow} {named : List Piece} (c : NamesAt blocks first extents named) (nz : extent ≢ 0) →
        NamedFirst blocks (next_extent c.chain (w.walks extents named c).walk nz).one
        (next_extent c.chain (w.walks extents named c).walk nz).behind (w.walks extents named c).left
    first_named {extents} {named} c nz =
        let v = w.walks extents named c in
        let n = next_extent c.chain v.walk nz in
        named_first n.one n.behind v.left (subst (λ (l : List ExtentRow). AreNamed blocks l v.left) n.is v.are)

    -- the range that its block says is named
    here_named : {extents : List ExtentRow} {named : List Piece} (c : NamesAt blocks first extents named) (nz : extent ≢ 0) (link : Link) →
        SeesLink (blocks extent) link → IsNamed blocks link.piece (first_named c nz).one
    here_named {extents} {named} c nz link s =
        let v = w.walks extents named c in
        let n = next_extent c.chain v.walk nz in
        subst (λ (r : Range). IsNamed blocks r (first_named c nz).one)
        (sym (s.piece (first_of extent_addr 0 n.behind) n.one (extent_keeps c.chain v.walk nz))) (first_named c nz).named

    pub some_named : {extents : List ExtentRow} {named : List Piece} → NamesAt blocks first extents named → extent ≢ 0 → (link : Link) →
        SeesLink (blocks extent) link → SomeNamed blocks link.piece
    some_named c nz link s = record { piece = (first_named c nz).one; named = here_named c nz link s }

    -- one more of what the chain names was asked of media
    asks_on : {after : M} {extents : List ExtentRow} {named : List Piece} (link : Link) (c : NamesAt blocks first extents named) (nz : extent ≢ 0) →
        SeesLink (blocks extent) link → length into' ≡ length into → AsksAtRange m blocks link.piece now (length into') mid after →
        m.asks after ≤ m.asks before + (count_outside (ahead at (length into) (w.walks extents named c).done)
        + count_outside (ahead now (length into) ((first_named c nz).one ∷ [])))
    asks_on {after} {extents} {named} link c nz s same g =
        let f = first_named c nz in
        let one = subst (λ n. AsksFor m (ahead now n (f.one ∷ [])) mid after) same (g.asks f.one (here_named c nz link s)) in
        let most = (w.walks extents named c).asks in
        omega (arith, one, most)

    pub named_on : {after : Cursor} {last : M} {into'' : List ℕ} (link : Link) → extent ≢ 0 → SeesLink (blocks extent) link →
        GoesOverRange (m.told before) blocks link.piece now after into' into'' → length into' ≡ length into →
        AsksAtRange m blocks link.piece now (length into') mid last →
        WalksNamed m before last blocks first link.next (i + 1) at after into into''
    named_on {after} {last} {into''} link nz s g same a = record {
      walks = λ extents named c.
          let v = w.walks extents named c in
          let n = next_extent c.chain v.walk nz in
          let f = first_named c nz in
          record {
            walk = walk_on ExtentFits extent_addr extent_block (λ p n x. refl) c.chain v.walk n link.next
                (s.next (first_of extent_addr 0 n.behind) n.one (extent_keeps c.chain v.walk nz));
            done = v.done ++ (f.one ∷ []);
            left = f.others;
            whole = v.whole ∙ ap (λ (l : List Piece). v.done ++ l) f.is ∙ sym (append_assoc v.done (f.one ∷ []) f.others);
            are = f.rest;
            goes = goes_trans v.goes (g.goes f.one (here_named c nz link s)) same;
            asks = let all = v.goes.counts (f.one ∷ []) in let most = asks_on link c nz s same a in omega (arith, all, most);
          };
    }

    -- what was asked of media is of what the chain names
    pub named_asks : AsksAtNamed m blocks first at (length into) before mid
    named_asks = record {
      asks = λ extents named c.
          let v = w.walks extents named c in
          let all = v.goes.counts v.left in
          let whole : count_outside (ahead at (length into) named) ≡ count_outside (ahead at (length into) (v.done ++ v.left)) =
          ap (λ (l : List Piece). count_outside (ahead at (length into) l)) v.whole in
          let most = v.asks in omega (arith, all, whole, most);
    }

    pub named_asks_on : {last : M} (link : Link) → extent ≢ 0 → SeesLink (blocks extent) link → length into' ≡ length into →
        AsksAtRange m blocks link.piece now (length into') mid last → AsksAtNamed m blocks first at (length into) before last
    named_asks_on {last} link nz s same a = record {
      asks = λ extents named c.
          let v = w.walks extents named c in
          let f = first_named c nz in
          let all = v.goes.counts (f.one ∷ f.others) in
          let whole : count_outside (ahead at (length into) named) ≡ count_outside (ahead at (length into) (v.done ++ (f.one ∷ f.others))) =
          ap (λ (l : List Piece). count_outside (ahead at (length into) l)) (v.whole ∙ ap (λ (l : List Piece). v.done ++ l) f.is) in
          let more = count_more now.skip (length into - now.given) (f.one ∷ []) f.others in
          let most = asks_on link c nz s same a in omega (arith, all, whole, more, most);
    }

    -- where what it names wasn't read, the chain wasn't
    pub named_stops : (link : Link) (new : M) (stop : Stop) → extent ≢ 0 → SeesLink (blocks extent) link →
        KeepsTold m before mid → length into' ≡ length into →
        StopsAtRange m blocks link.piece now (length into') mid new stop → StopsAtNamed m blocks first at (length into) before new stop
    named_stops link new stop nz s k same g = record {
      stops = λ extents named c others.
          let v = w.walks extents named c in
          let f = first_named c nz in
          let whole : named ++ others ≡ v.done ++ (f.one ∷ (f.others ++ others)) =
          ap (λ (l : List Piece). l ++ others) (v.whole ∙ ap (λ (l : List Piece). v.done ++ l) f.is)
          ∙ append_assoc v.done (f.one ∷ f.others) others in
          let rest = f.one ∷ (f.others ++ others) in
          let gathers : Gathering (m.told before) (ahead at (length into) (v.done ++ rest)) (ahead now (length into) rest) v.goes.bytes =
          v.goes.gathers rest in
          stops_later m (ahead at (length into) (named ++ others)) (ahead now (length into) rest) v.goes.bytes before mid new stop
          (subst (λ (l : List Piece). Gathering (m.told before) (ahead at (length into) l) (ahead now (length into) rest) v.goes.bytes) (sym whole)
          gathers) k
          (subst (λ n. StopsPieces m (ahead now n rest) mid new stop) same
          (g.stops f.one (here_named c nz link s) (f.others ++ others)));
    }

    -- all were gone over, or what is left has no room
    named_over : ((extents : List ExtentRow) (named : List Piece) (c : NamesAt blocks first extents named) →
        (w.walks extents named c).walk.left ≡ []) → GoesOverNamed (m.told before) blocks first at now into into'
    named_over none = record {
      goes = λ extents named c.
          let v = w.walks extents named c in
          let left : v.left ≡ [] =
          named_none blocks v.left (subst (λ (l : List ExtentRow). AreNamed blocks l v.left) (none extents named c) v.are) in
          let all : named ≡ v.done = v.whole ∙ ap (λ (l : List Piece). v.done ++ l) left ∙ append-nil v.done in
          subst (λ (l : List Piece). GoesOverPieces (m.told before) l at now into into') (sym all) v.goes;
    }

    pub named_at_zero : extent ≡ 0 → GoesOverNamed (m.told before) blocks first at now into into'
    named_at_zero z =
        named_over (λ extents named c. over_at_zero ExtentFits extent_addr extent_block (λ p n x. refl) c.chain (w.walks extents named c).walk z)

    pub named_at_most : i ≡ 4194304 → GoesOverNamed (m.told before) blocks first at now into into'
    named_at_most all =
        named_over (λ extents named c. over_at_most ExtentFits extent_addr extent_block (λ p n x. refl) c.chain (w.walks extents named c).walk all)

    pub named_at_full : now.given ≡ length into' → length into' ≡ length into → GoesOverNamed (m.told before) blocks first at now into into'
    named_at_full full same = record {
      goes = λ extents named c.
          let v = w.walks extents named c in
          subst (λ (ps : List Piece). GoesOverPieces (m.told before) ps at now into into') (sym v.whole)
          (goes_trans v.goes (goes_full (m.told before) v.left now into' full) same);
    }

-- where the heap failed, nothing is said of what extents name
pub named_failed : {blocks : Blocks} {room : ℕ} {M : Type 0} (m : Ghosts M) (first : ℕ) (at : Cursor) (old new : M) (stop : Stop) → OnlyFault stop →
    StopsAtNamed m blocks first at room old new stop
named_failed {blocks} {room} m first at old new stop f = record { stops = λ extents named c others. only_fault m (ahead at room (named ++ others)) old new stop f }

pub named_unasked : {blocks : Blocks} {room : ℕ} {M : Type 0} (m : Ghosts M) (first : ℕ) (at : Cursor) (old : M) →
    AsksAtNamed m blocks first at room old old
named_unasked m first at old = record { asks = λ extents named c. omega arith }
