-- Pieces that are gone over, one after another.
use Rattle.std.proofs.Common.{◌≡◌, ◌≢◌, ◌≤◌, ◌+◌, ◌-◌, ℕ, Bool, true, false, List, [], ◌∷◌, ◌++◌, Option, length, take, min, cond, refl, sym, ap, ◌∙◌, subst, arith, append_assoc, append-nil, length-append}
use Rattle.std.specs.Prelude.{◌==◌}
use Rattle.std.proofs.lemmas.Bool.{eqb-true, ne_eqb}
use Rattle.std.proofs.lemmas.List.{nil_from_length}
use Rattle.sdr_base.specs.Media.{Told}
use Rattle.sdr_machine.specs.Asked.{count_outside}
use Rattle.sdr_gather.specs.Gathering.{AreGathered, Gathering, GivesPiece}
use Rattle.sdr_gather.proofs.GatheringLemmas.{count_outside-cons, gathering-end, gathering-next, gathering-start, gathering-trans}
use Rattle.sdr_model.specs.Pieces.{cut_pieces, piece_length, piece_part}
use Rattle.sdr_model.specs.declared.piece.Piece.{Piece}
use Rattle.zco_wire.specs.Going.{GoesOverPieces, ahead}
use Rattle.zco_wire.specs.declared.cursor.Cursor.{Cursor}

-- no byte is cut
pub cut_none : (skip : ℕ) (ps : List Piece) → cut_pieces skip 0 ps ≡ []
cut_none skip [] = refl
cut_none skip (p ∷ ps) =
    let z : min 0 (piece_length p - skip) ≡ 0 = omega arith in
    ap (λ n. cond (n == 0) (cut_pieces (skip - piece_length p) (0 - n) ps)
    (piece_part skip n p ∷ cut_pieces (skip - piece_length p) (0 - n) ps)) z
    ∙ cut_none (skip - piece_length p) ps

-- the first of pieces is cut, where some of its bytes are asked
pub cut_first : (p : Piece) (skip room count : ℕ) (others : List Piece) → count ≡ min room (piece_length p - skip) → count ≢ 0 →
    cut_pieces skip room (p ∷ others) ≡ piece_part skip count p ∷ cut_pieces (skip - piece_length p) (room - count) others
cut_first p skip room count others many nz =
    ap (λ n. cond (n == 0) (cut_pieces (skip - piece_length p) (room - n) others)
    (piece_part skip n p ∷ cut_pieces (skip - piece_length p) (room - n) others)) (sym many)
    ∙ ap (λ b. cond b (cut_pieces (skip - piece_length p) (room - count) others)
    (piece_part skip count p ∷ cut_pieces (skip - piece_length p) (room - count) others)) (ne_eqb count 0 nz)

-- of more pieces as many bytes are cut from as many that lie with media at least
count_rest : (b : Bool) (p : Piece) (rest more : List Piece) → count_outside rest ≤ count_outside more →
    count_outside (cond b rest (p ∷ rest)) ≤ count_outside (cond b more (p ∷ more))
count_rest true p rest more le = le
count_rest false p rest more le = let a = count_outside-cons p rest in let b = count_outside-cons p more in omega (arith, le, a, b)

pub count_more : (skip room : ℕ) (ps others : List Piece) → count_outside (cut_pieces skip room ps) ≤ count_outside (cut_pieces skip room (ps ++ others))
count_more skip room [] others = omega arith
count_more skip room (p ∷ ps) others =
    let count = min room (piece_length p - skip) in
    count_rest (count == 0) (piece_part skip count p) (cut_pieces (skip - piece_length p) (room - count) ps)
    (cut_pieces (skip - piece_length p) (room - count) (ps ++ others)) (count_more (skip - piece_length p) (room - count) ps others)

-- nothing is gone over
pub goes_none : (told : Option Told) (at : Cursor) (into : List ℕ) → at.given ≤ length into → GoesOverPieces told [] at at into into
goes_none told at into room = record {
  bytes = [];
  given = omega arith;
  room = room;
  stand = sym (append-nil (take at.given into));
  gathers = λ others. gathering-start told (ahead at (length into) others);
  counts = λ others. omega arith;
}

-- where the buffer is full, all others are gone over
pub goes_full : (told : Option Told) (over : List Piece) (at : Cursor) (into : List ℕ) → at.given ≡ length into →
    GoesOverPieces told over at at into into
goes_full told over at into full = record {
  bytes = [];
  given = omega arith;
  room = omega (arith, full);
  stand = sym (append-nil (take at.given into));
  gathers = λ others.
      let z : length into - at.given ≡ 0 = omega (arith, full) in
      let none : (ps : List Piece) → ahead at (length into) ps ≡ [] =
      λ ps. ap (λ n. cut_pieces at.skip n ps) z ∙ cut_none at.skip ps in
      subst (λ (all : List Piece). Gathering told all (ahead at (length into) others) []) (sym (none (over ++ others)))
      (subst (λ (rest : List Piece). Gathering told [] rest []) (sym (none others)) (gathering-start told []));
  counts = λ others.
      let z : length into - at.given ≡ 0 = omega (arith, full) in
      let none : (ps : List Piece) → count_outside (ahead at (length into) ps) ≡ 0 =
      λ ps. ap count_outside (ap (λ n. cut_pieces at.skip n ps) z ∙ cut_none at.skip ps) in
      let all = none (over ++ others) in let these = none over in let those = none others in omega (arith, all, these, those);
}

-- some, and then others
pub goes_trans : {told : Option Told} {ps qs : List Piece} {a b c : Cursor} {x y z : List ℕ} → GoesOverPieces told ps a b x y → GoesOverPieces told qs b c y z →
    length y ≡ length x → GoesOverPieces told (ps ++ qs) a c x z
goes_trans {told} {ps} {qs} {a} {b} {c} {x} {y} {z} g h same =
    let e = g.given in let f = h.given in let r = h.room in let l = length-append g.bytes h.bytes in
    record {
      bytes = g.bytes ++ h.bytes;
      given = omega (arith, e, f, l);
      room = omega (arith, r, same);
      stand = h.stand ∙ ap (λ s. s ++ h.bytes) g.stand ∙ append_assoc (take a.given x) g.bytes h.bytes;
      gathers = λ others.
          gathering-trans told (ahead a (length x) ((ps ++ qs) ++ others)) (ahead b (length x) (qs ++ others)) (ahead c (length x) others)
          g.bytes h.bytes
          (subst (λ (all : List Piece). Gathering told (ahead a (length x) all) (ahead b (length x) (qs ++ others)) g.bytes)
          (sym (append_assoc ps qs others)) (g.gathers (qs ++ others)))
          (subst (λ n. Gathering told (ahead b n (qs ++ others)) (ahead c n others) h.bytes) same (h.gathers others));
      counts = λ others.
          let whole : count_outside (ahead a (length x) ((ps ++ qs) ++ others)) ≡ count_outside (ahead a (length x) (ps ++ (qs ++ others))) =
          ap (λ (l : List Piece). count_outside (ahead a (length x) l)) (append_assoc ps qs others) in
          let first = g.counts (qs ++ others) in
          let both = g.counts qs in
          let second : count_outside (ahead b (length x) (qs ++ others))
          ≡ count_outside (ahead b (length x) qs) + count_outside (ahead c (length x) others) =
          subst (λ n. count_outside (ahead b n (qs ++ others)) ≡ count_outside (ahead b n qs) + count_outside (ahead c n others)) same (h.counts others) in
          omega (arith, whole, first, both, second);
    }

-- all pieces were gone over from the begin of the buffer on
pub goes_all : {told : Option Told} {ps : List Piece} {at : Cursor} {into into' : List ℕ} (place : ℕ) →
    GoesOverPieces told ps (record { skip = place; given = 0 }) at into into' →
    AreGathered told (cut_pieces place (length into) ps) (take at.given into')
goes_all {told} {ps} {at} {into} {into'} place g =
    subst (AreGathered told (cut_pieces place (length into) ps)) (sym g.stand)
    (gathering-end told (cut_pieces place (length into) ps) g.bytes
    (subst (λ (all : List Piece). Gathering told (cut_pieces place (length into) all) [] g.bytes) (append-nil ps)
    (let z : length into - 0 ≡ length into = omega arith in
    subst (λ n. Gathering told (cut_pieces place n (ps ++ [])) [] g.bytes) z (g.gathers []))))

-- one piece: the part of it that is asked was given
module _ (told : Option Told) (p : Piece) (at new : Cursor) (into into' bytes : List ℕ) (count : ℕ) (room : at.given ≤ length into)
    (many : count ≡ min (length into - at.given) (piece_length p - at.skip)) (skip : new.skip ≡ at.skip - piece_length p)
    (given : new.given ≡ at.given + count) where
  -- what is ahead of it
  rest_is : (others : List Piece) → cut_pieces (at.skip - piece_length p) ((length into - at.given) - count) others
      ≡ ahead new (length into) others
  rest_is others =
      let n : (length into - at.given) - count ≡ length into - new.given = omega (arith, given) in
      ap (λ k. cut_pieces (at.skip - piece_length p) k others) n ∙ ap (λ k. cut_pieces k (length into - new.given) others) (sym skip)

  ahead_is : (others : List Piece) (b : Bool) → (count == 0) ≡ b → ahead at (length into) (p ∷ others)
      ≡ cond b (ahead new (length into) others) (piece_part at.skip count p ∷ ahead new (length into) others)
  ahead_is others b is =
      ap (λ n. cond (n == 0) (cut_pieces (at.skip - piece_length p) ((length into - at.given) - n) others)
      (piece_part at.skip n p ∷ cut_pieces (at.skip - piece_length p) ((length into - at.given) - n) others)) (sym many)
      ∙ ap (λ (rest : List Piece). cond (count == 0) rest (piece_part at.skip count p ∷ rest)) (rest_is others)
      ∙ ap (λ c. cond c (ahead new (length into) others) (piece_part at.skip count p ∷ ahead new (length into) others)) is

  gathers_one : (others : List Piece) (b : Bool) → (count == 0) ≡ b → (b ≡ true → bytes ≡ []) →
      (b ≡ false → GivesPiece told (piece_part at.skip count p) bytes) →
      Gathering told (ahead at (length into) (p ∷ others)) (ahead new (length into) others) bytes
  gathers_one others true is none gives =
      subst (λ (all : List Piece). Gathering told all (ahead new (length into) others) bytes) (sym (ahead_is others true is))
      (subst (Gathering told (ahead new (length into) others) (ahead new (length into) others)) (sym (none refl))
      (gathering-start told (ahead new (length into) others)))
  gathers_one others false is none gives =
      let q = piece_part at.skip count p in
      subst (λ (all : List Piece). Gathering told all (ahead new (length into) others) bytes) (sym (ahead_is others false is))
      (gathering-next told (q ∷ ahead new (length into) others) q (ahead new (length into) others) [] bytes
      (gathering-start told (q ∷ ahead new (length into) others))
      (record { bytes = bytes; gives = gives refl; added = refl }))

  counts_one : (others : List Piece) (b : Bool) → (count == 0) ≡ b →
      count_outside (ahead at (length into) (p ∷ others))
      ≡ count_outside (ahead at (length into) (p ∷ [])) + count_outside (ahead new (length into) others)
  counts_one others true is =
      let all = ap count_outside (ahead_is others true is) in let this = ap count_outside (ahead_is [] true is) in omega (arith, all, this)
  counts_one others false is =
      let all = ap count_outside (ahead_is others false is) in
      let this = ap count_outside (ahead_is [] false is) in
      let first = count_outside-cons (piece_part at.skip count p) (ahead new (length into) others) in omega (arith, all, this, first)

  pub goes_one : length bytes ≡ count → take new.given into' ≡ take at.given into ++ bytes →
      (count ≢ 0 → GivesPiece told (piece_part at.skip count p) bytes) → GoesOverPieces told (p ∷ []) at new into into'
  goes_one long stand gives = record {
    bytes = bytes;
    given = omega (arith, given, long);
    room = omega (arith, given, many, room);
    stand = stand;
    gathers = λ others. gathers_one others (count == 0) refl (λ z. none z) (λ f. gives (λ z. some f z));
    counts = λ others. counts_one others (count == 0) refl;
  }
    where
      none : (count == 0) ≡ true → bytes ≡ []
      none z = nil_from_length bytes (long ∙ eqb-true count 0 z)

      some : (count == 0) ≡ false → count ≡ 0 → ⊥
      some f z = let e : true ≡ false = sym (ap (λ n. n == 0) z) ∙ f in cc
