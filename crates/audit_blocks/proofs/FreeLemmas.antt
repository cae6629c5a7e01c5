-- The walk over the lists of free blocks.
use Rattle.std.proofs.Common.{◌≡◌, ◌≢◌, ◌≤◌, ◌<◌, ◌+◌, ◌-◌, ◌*◌, ◌/◌, ◌&&◌, ◌⊎◌, ℕ, Bool, List, [], ◌∷◌, ◌++◌, cond, true, false, length, get_or, set, arith, ap, ◌∙◌, refl, sym, subst, inl, inr}
use Rattle.std.proofs.lemmas.Bool.{and_right, cases_eq, eq-eqb}
use Rattle.std.proofs.lemmas.List.{length-set}
use Rattle.sdr_base.proofs.PoolsLemmas.{count_by-append, count_by-yes}
use Rattle.sdr_base.specs.Pools.{PoolBlock}
use Rattle.sdr_base.specs.Stored.{number_at}
use Rattle.audit_blocks.proofs.GoesLemmas.{follows_listed, goes_on, goes_then}
use Rattle.audit_blocks.proofs.ListedLemmas.{free_inside, is_addr, listed_at, marked_counts, marked_more, with_listed, with_listed-here, with_listed-other}
use Rattle.audit_blocks.proofs.ListsLemmas.{list_right, right_over}
use Rattle.audit_blocks.specs.Control.{ControlIsRight}
use Rattle.audit_blocks.specs.Free.{IsListIn, IsWrongList}
use Rattle.sdr_base.specs.Entries.{AreOnce}
use Rattle.audit_blocks.specs.Listed.{AreMarked, ListGoes, GoesOver, ListWalked, ListsWalked, frame_in, is_listed, is_marked, may_follow}
use Rattle.audit_blocks.specs.Walk.{AreBlocks}
use Rattle.audit_blocks.specs.Walked.{AllFound}
use Rattle.audit_blocks.specs.declared.free.Link.{Link}
use Rattle.audit_blocks.specs.declared.spot.Spot.{Spot}

one_at_most : (b : Bool) → cond {A = ℕ} b 1 0 ≤ 1
one_at_most true = omega arith
one_at_most false = omega arith

-- a block that is marked stands in its list once
pub once_marked : (bytes : List ℕ) (told : List Spot) (lists : ℕ → List ℕ) (reached : List Bool) → AreMarked bytes told lists reached → (word : ℕ) → AreOnce (lists word)
once_marked bytes told lists reached are word addr =
    subst (λ (n : ℕ). n ≤ 1) (sym (are word addr)) (one_at_most (is_listed bytes told word addr && is_marked reached word addr))

-- before the first list none is marked
pub lists_begin : (bytes : List ℕ) (told : List Spot) (reached : List Bool) → length reached ≡ length told → ((word : ℕ) → get_or reached word false ≡ false) → ListsWalked bytes told reached 4
lists_begin bytes told reached long clear = record {
  long = long;
  lists = λ word. [];
  done = λ other is less. let first = is.first in absurd (omega (arith, first, less));
  rest = λ other more. refl;
  marks = λ word addr. sym (ap (λ (t : Bool). cond {A = ℕ} t 1 0) (and_right (is_listed bytes told word addr) (is_marked reached word addr) (clear ((addr - frame_in word) / 8))));
}

-- where its link leads to none it ends
pub list_ends : {bytes : List ℕ} {told : List Spot} {reached : List Bool} {link : Link} → ListWalked bytes told reached link → link.addr ≡ 0 →
    ListsWalked bytes told reached (link.word + 1)
list_ends {bytes} {told} {reached} {link} w none = record {
  long = w.long;
  lists = w.lists;
  done = λ other is less. elim (cases_eq other link.word) [
    | inl same ↦
        subst (λ (o : ℕ). GoesOver bytes told o (8 * o) 0 (w.lists o)) (sym same)
        (record { to = w.place; last = link.before; goes = w.here; end = w.tells ∙ none })
    | inr off ↦ w.done other is (omega (arith, less, off))
  ];
  rest = λ other more. w.rest other (omega (arith, more));
  marks = w.marks;
}

-- where its link leads to a free block of the list that isn't marked, it goes on behind it
pub list_goes_on : {bytes : List ℕ} {told : List Spot} {reached : List Bool} {link : Link} {addr : ℕ} → ListWalked bytes told reached link →
    may_follow bytes told link.word link.before link.addr ≡ true → is_marked reached link.word link.addr ≡ false →
    addr ≡ number_at (link.addr - frame_in link.word + 8) bytes →
    ListWalked bytes told (set reached ((link.addr - frame_in link.word) / 8) true) (record { word = link.word; before = link.addr; addr = addr })
list_goes_on {bytes} {told} {reached} {link} {addr} w follows unmarked is =
    let listed = follows_listed bytes told link.word link.before link.addr follows in
    let at = listed_at bytes told link.word link.addr listed in
    let inside : (link.addr - frame_in link.word) / 8 < length reached =
    subst (λ (n : ℕ). (link.addr - frame_in link.word) / 8 < n) (sym w.long) (free_inside told ((link.addr - frame_in link.word) / 8) at.free) in
    record {
      list = w.list;
      lists = with_listed w.lists link.word link.addr;
      done = λ other other_is less.
          subst (λ (l : List ℕ). GoesOver bytes told other (8 * other) 0 l)
          (sym (with_listed-other w.lists link.word link.addr other (λ e. omega (arith, e, less)))) (w.done other other_is less);
      place = link.addr - frame_in link.word + 8;
      here =
          subst (λ (l : List ℕ). ListGoes bytes told link.word (8 * link.word) 0 l (link.addr - frame_in link.word + 8) link.addr)
          (sym (with_listed-here w.lists link.word link.addr))
          (goes_then bytes told link.word (8 * link.word) 0 (w.lists link.word) w.place link.before link.addr w.here w.tells follows);
      tells = sym is;
      rest = λ other more. with_listed-other w.lists link.word link.addr other (λ e. omega (arith, e, more)) ∙ w.rest other more;
      marks = marked_more bytes told w.lists reached link.word link.addr w.marks listed unmarked inside;
      long = length-set reached ((link.addr - frame_in link.word) / 8) true ∙ w.long;
    }

-- why a link may not be followed
abbrev pub IsBadLink : List ℕ → List Spot → List Bool → Link → Type 0
IsBadLink bytes told reached link =
    (may_follow bytes told link.word link.before link.addr ≡ false) ⊎ (is_marked reached link.word link.addr ≡ true)

module _ (bytes : List ℕ) (told : List Spot) (reached : List Bool) (link : Link) (right : ControlIsRight bytes) (long : length told * 8 ≡ length bytes)
    (found : AllFound bytes told) (w : ListWalked bytes told reached link) (some : link.addr ≢ 0)
    (bad : IsBadLink bytes told reached link) (small large : List PoolBlock) (are : AreBlocks bytes small large) where
  -- a list that goes on over such a link isn't right
  goes_bad : (rest : List ℕ) (end last' : ℕ) → ListGoes bytes told link.word w.place link.before rest end last' → number_at end bytes ≡ 0 →
      AreOnce (w.lists link.word ++ rest) → ⊥
  goes_bad [] end last' (at, is_last) none once = some (sym w.tells ∙ ap (λ (n : ℕ). number_at n bytes) at ∙ none)
  goes_bad (a ∷ rest) end last' (at, ok, more) none once =
      let same : a ≡ link.addr = sym at ∙ w.tells in
      let follows : may_follow bytes told link.word link.before link.addr ≡ true =
      subst (λ (n : ℕ). may_follow bytes told link.word link.before n ≡ true) same ok in
      elim bad [
        | inl not_so ↦ let d : false ≡ true = sym not_so ∙ follows in cc
        | inr marked ↦
            let one = marked_counts bytes told w.lists reached link.word link.addr w.marks (follows_listed bytes told link.word link.before link.addr follows) marked in
            let both = count_by-append (is_addr link.addr) (w.lists link.word) (a ∷ rest) in
            let more_one = count_by-yes (is_addr link.addr) a rest (eq-eqb a link.addr same) in
            let most = once link.addr in
            omega (arith, one, both, more_one, most)
      ]

  not_right : IsListIn bytes small large link.word → ⊥
  not_right list =
      let r = right_over bytes told right long found small large are link.word w.list list in
      let g = goes_on bytes told link.word (8 * link.word) 0 (w.lists link.word) r.addrs w.place link.before r.over.to r.over.last w.here r.over.goes r.over.end in
      goes_bad g.rest r.over.to r.over.last g.goes r.over.end (subst AreOnce g.whole r.once)

  -- so it is the first wrong list
  pub list_wrong : IsWrongList bytes small large (8 * link.word)
  list_wrong = record {
    word = link.word;
    at = refl;
    of_list = w.list;
    before = λ other other_is less.
        list_right bytes told right long found small large are other other_is (w.lists other) (w.done other other_is less)
        (once_marked bytes told w.lists reached w.marks other);
    wrong = not_right;
  }
