-- Moves made one after another, and blocks given back.
use Rattle.std.proofs.Common.{◌≡◌, ◌-◌, ℕ, Bool, List, [], ◌∷◌, ◌++◌, length, true, refl, sym, ap, ◌∙◌, arith, subst, append_assoc, append-nil, length-append}
use Rattle.std.proofs.lemmas.List.{length-map, map-append}
use Rattle.sdr_base.specs.Blocks.{with_at}
use Rattle.sdr_base.specs.Making.{GaveSome, Made, besides, gave, marked_by, with_moves}
use Rattle.sdr_base.specs.Objects.{Heap, with_given}
use Rattle.sdr_base.specs.declared.moves.Move.{Move}
use Rattle.sdr_base.specs.declared.moves.Move.TheVariants.{Gave, Short, Took}

-- moves one after another
marked_by-append : (ms ns : List Move) (marks : ℕ → Bool) → marked_by marks (ms ++ ns) ≡ marked_by (marked_by marks ms) ns
marked_by-append [] ns marks = refl
marked_by-append (Took need addr ∷ ms) ns marks = marked_by-append ms ns (with_at marks addr true)
marked_by-append (Gave addr ∷ ms) ns marks = marked_by-append ms ns marks
marked_by-append (Short need ∷ ms) ns marks = marked_by-append ms ns marks

pub made_then : {old mid new : Heap} (ms ns : List Move) → Made ms old mid → Made ns mid new → Made (ms ++ ns) old new
made_then {old} {mid} {new} ms ns m n = record {
  all = n.all ∙ ap (λ (h : Heap). besides (with_moves h ns)) m.all ∙ whole;
}
  where
    marks : marked_by (marked_by old.marks ms) ns ≡ marked_by old.marks (ms ++ ns)
    marks = sym (marked_by-append ms ns old.marks)

    spare : (old.spare - length ms) - length ns ≡ old.spare - length (ms ++ ns)
    spare = let l = length-append ms ns in omega (arith, l)

    whole : besides (with_moves (with_moves old ms) ns) ≡ besides (with_moves old (ms ++ ns))
    whole = λ i. besides (record old { marks = marks i; moves = append_assoc old.moves ms ns i; spare = spare i })

-- no move was made
pub none_made : (h : Heap) → Made [] h h
none_made h = record {
  all = λ i. besides (record h { moves = sym (append-nil h.moves) i; spare = none i });
}
  where
    none : h.spare ≡ h.spare - 0
    none = omega arith

pub length-gave : (addrs : List ℕ) → length (gave addrs) ≡ length addrs
length-gave addrs = length-map addrs (λ a. Gave a)

-- some more were given back
pub more_gave : {old mid new : Heap} (before addrs : List ℕ) → Made (gave before) old mid → Made (gave addrs) mid new →
    Made (gave (before ++ addrs)) old new
more_gave {old} {mid} {new} before addrs m n =
    subst (λ (ms : List Move). Made ms old new) (sym (map-append (λ a. Gave a) before addrs))
    (made_then (gave before) (gave addrs) m n)

-- one more was
pub one_gave : {old mid new : Heap} (addrs : List ℕ) (addr : ℕ) → Made (gave addrs) old mid → new ≡ with_given mid addr →
    Made (gave (addrs ++ (addr ∷ []))) old new
one_gave addrs addr m g = more_gave addrs (addr ∷ []) m (record { all = ap besides g })

-- for as many moves less there is room
pub gave_spare : {old new : Heap} (addrs : List ℕ) → Made (gave addrs) old new → new.spare ≡ old.spare - length addrs
gave_spare {old} {new} addrs m =
    let e : new.spare ≡ old.spare - length (gave addrs) = ap (λ (h : Heap). h.spare) m.all in
    let l = length-gave addrs in omega (arith, e, l)

-- some first ones of what is given back, after others
pub some_then : {old mid new : Heap} (before addrs behind : List ℕ) → Made (gave before) old mid → GaveSome addrs mid new →
    GaveSome (before ++ (addrs ++ behind)) old new
some_then {old} {mid} {new} before addrs behind m s = record {
  made = gave before ++ s.made;
  first = record {
    rest = s.first.rest ++ gave behind;
    whole =
        map-append (λ a. Gave a) before (addrs ++ behind)
        ∙ ap (λ (ms : List Move). gave before ++ ms)
        (map-append (λ a. Gave a) addrs behind ∙ ap (λ (ms : List Move). ms ++ gave behind) s.first.whole
        ∙ append_assoc s.made s.first.rest (gave behind))
        ∙ sym (append_assoc (gave before) s.made (s.first.rest ++ gave behind));
  };
  moves =
      s.moves ∙ ap (λ (ms : List Move). ms ++ s.made) (ap (λ (h : Heap). h.moves) m.all)
      ∙ append_assoc old.moves (gave before) s.made;
  spare =
      let e : mid.spare ≡ old.spare - length (gave before) = ap (λ (h : Heap). h.spare) m.all in
      let n = s.spare in
      let l = length-append (gave before) s.made in omega (arith, e, n, l);
}

-- which are some first ones of more
pub some_of : {old new : Heap} {addrs : List ℕ} (behind : List ℕ) → GaveSome addrs old new → GaveSome (addrs ++ behind) old new
some_of {old} {addrs = addrs} behind s = some_then [] addrs behind (none_made old) s
