-- A list that goes over free blocks.
use Rattle.std.proofs.Common.{◌≡◌, ◌≢◌, ◌≤◌, ◌+◌, ◌-◌, ◌*◌, ◌||◌, ◌==◌, ℕ, Bool, List, [], ◌∷◌, ◌++◌, cond, true, false, arith, ap, ◌∙◌, refl, sym, subst, inl, inr}
use Rattle.std.specs.Prelude.{map}
use Rattle.std.specs.List.{All}
use Rattle.std.proofs.lemmas.Bool.{and_from, and_parts, cases_lt, eq-eqb, eqb-true, le-leb, lt-leb}
use Rattle.std.proofs.lemmas.List.Elements.{All-cons, All-head, All-nil, All-tail}
use Rattle.sdr_base.specs.KeptLarge.{Links}
use Rattle.sdr_base.specs.KeptPools.{ChainFrom}
use Rattle.sdr_base.specs.Stored.{leader_words, number_at}
use Rattle.audit_blocks.proofs.ListedLemmas.{listed_at}
use Rattle.audit_blocks.specs.Listed.{ListGoes, GoesOver, frame_in, has_previous, is_listed, is_small_list, may_follow}
use Rattle.audit_blocks.specs.declared.spot.Spot.{Spot}

pub frame_small : (word : ℕ) → is_small_list word ≡ true → frame_in word ≡ 8
frame_small word small = ap (λ (t : Bool). cond t 8 16) small

pub frame_large : (word : ℕ) → is_small_list word ≡ false → frame_in word ≡ 16
frame_large word large = ap (λ (t : Bool). cond t 8 16) large

-- a block stands behind the front of the region
pub frame_some : (word : ℕ) → 8 ≤ frame_in word
frame_some word = elim (cases_lt 67 word) [
  | inl more ↦ let e = frame_large word (lt-leb word 67 more) in omega (arith, e)
  | inr less ↦ let e = frame_small word (le-leb word 67 less) in omega (arith, e)
]

module _ (bytes : List ℕ) (told : List Spot) (word : ℕ) where
  pub follows_listed : (before addr : ℕ) → may_follow bytes told word before addr ≡ true → is_listed bytes told word addr ≡ true
  follows_listed before addr follows = (and_parts (is_listed bytes told word addr) (has_previous bytes word before addr) follows).0

  pub follows_some : (before addr : ℕ) → may_follow bytes told word before addr ≡ true → addr ≢ 0
  follows_some before addr follows none =
      let at = listed_at bytes told word addr (follows_listed before addr follows) in
      let frame = at.frame in
      let some = frame_some word in
      omega (arith, frame, some, none)

  -- it goes on to the block to which its last link leads
  pub goes_then : (place before : ℕ) (addrs : List ℕ) (to last addr : ℕ) → ListGoes bytes told word place before addrs to last → number_at to bytes ≡ addr →
      may_follow bytes told word last addr ≡ true → ListGoes bytes told word place before (addrs ++ (addr ∷ [])) (addr - frame_in word + 8) addr
  goes_then place before [] to last addr (at, is_last) tells follows = (
    ap (λ (n : ℕ). number_at n bytes) at ∙ tells,
    ap (λ (n : ℕ). may_follow bytes told word n addr) is_last ∙ follows,
    (refl, refl),
  )
  goes_then place before (a ∷ addrs) to last addr (is, ok, more) tells follows =
      (is, ok, goes_then (a - frame_in word + 8) a addrs to last addr more tells follows)

  -- what a list goes over behind some of its blocks
  pub record GoesOn (done addrs : List ℕ) (to last end last' : ℕ) : Type 0 where
    pub rest : List ℕ
    pub whole : addrs ≡ done ++ rest
    pub goes : ListGoes bytes told word to last rest end last'

  -- two ways that a list goes begin alike
  pub goes_on : (place before : ℕ) (done addrs : List ℕ) (to last end last' : ℕ) → ListGoes bytes told word place before done to last →
      ListGoes bytes told word place before addrs end last' → number_at end bytes ≡ 0 → GoesOn done addrs to last end
      last'
  goes_on place before [] addrs to last end last' (at, is_last) goes none = record {
    rest = addrs;
    whole = refl;
    goes = (let P = λ (p b : ℕ). ListGoes bytes told word p b addrs end last' in subst (λ (b : ℕ). P to b) is_last (subst (λ (p : ℕ). P p before) at goes));
  }
  goes_on place before (d ∷ done) [] to last end last' (is, ok, more) (at, is_last) none =
      absurd (follows_some before d ok (sym is ∙ ap (λ (n : ℕ). number_at n bytes) at ∙ none))
  goes_on place before (d ∷ done) (a ∷ addrs) to last end last' (is, ok, more) (is', ok', more') none =
      let same : a ≡ d = sym is' ∙ is in
      let g = goes_on (d - frame_in word + 8) d done addrs to last end last' more
      (subst (λ (n : ℕ). ListGoes bytes told word (n - frame_in word + 8) n addrs end last') same more') none in
      record { rest = g.rest; whole = (λ i. same i ∷ g.whole i); goes = g.goes }

  -- two whole lists from one link are the same
  pub goes_same : (place before : ℕ) (xs ys : List ℕ) → GoesOver bytes told word place before xs → GoesOver bytes told word place before ys → xs ≡ ys
  goes_same place before xs ys x y =
      let g = goes_on place before xs ys x.to x.last y.to y.last x.goes y.goes y.end in
      sym (g.whole ∙ nothing g.rest g.goes)
    where
      append_none : (l : List ℕ) → l ++ [] ≡ l
      append_none [] = refl
      append_none (a ∷ l) = ap (λ (m : List ℕ). a ∷ m) (append_none l)

      nothing : (rest : List ℕ) → ListGoes bytes told word x.to x.last rest y.to y.last → xs ++ rest ≡ xs
      nothing [] goes = append_none xs
      nothing (a ∷ rest) (is, ok, more) = absurd (follows_some x.last a ok (sym is ∙ x.end))

  -- each of its blocks is a free one of the list
  pub goes_all : (place before : ℕ) (addrs : List ℕ) (to last : ℕ) → ListGoes bytes told word place before addrs to
      last →
      All (λ addr. is_listed bytes told word addr ≡ true) addrs
  goes_all place before [] to last goes = All-nil (λ addr. is_listed bytes told word addr ≡ true)
  goes_all place before (a ∷ addrs) to last (is, ok, more) =
      All-cons (λ addr. is_listed bytes told word addr ≡ true) a addrs (follows_listed before a ok)
      (goes_all (a - frame_in word + 8) a addrs to last more)

  small_next : (a : ℕ) → is_small_list word ≡ true → is_listed bytes told word a ≡ true → a - frame_in word + 8 ≡ a
  small_next a small listed =
      let at = listed_at bytes told word a listed in
      let frame = frame_small word small in
      let low : frame_in word ≤ a = at.frame in
      ap (λ (f : ℕ). a - f + 8) frame ∙ (let low' : 8 ≤ a = subst (λ (f : ℕ). f ≤ a) frame low in omega (arith, low'))

  large_next : (a : ℕ) → is_small_list word ≡ false → is_listed bytes told word a ≡ true → a - frame_in word + 8 ≡ a - 8
  large_next a large listed =
      let at = listed_at bytes told word a listed in
      let frame = frame_large word large in
      let low : frame_in word ≤ a = at.frame in
      ap (λ (f : ℕ). a - f + 8) frame ∙ (let low' : 16 ≤ a = subst (λ (f : ℕ). f ≤ a) frame low in omega (arith, low'))

  -- a list of small blocks is a chain
  pub chain_of : (place before : ℕ) (addrs : List ℕ) (to last : ℕ) → is_small_list word ≡ true → ListGoes bytes told word place before addrs to last →
      number_at to bytes ≡ 0 → ChainFrom bytes place addrs
  unfolding ChainFrom
  chain_of place before [] to last small (at, is_last) end = ap (λ (n : ℕ). number_at n bytes) at ∙ end
  chain_of place before (a ∷ addrs) to last small (is, ok, more) end = (
    is,
    subst (λ (n : ℕ). ChainFrom bytes n addrs) (small_next a small (follows_listed before a ok))
        (chain_of (a - frame_in word + 8) a addrs to last small more end),
  )

  pub goes_chain : (place before : ℕ) (addrs : List ℕ) → is_small_list word ≡ true → ChainFrom bytes place addrs →
      All (λ addr. is_listed bytes told word addr ≡ true) addrs → GoesOver bytes told word place before addrs
  unfolding ChainFrom
  goes_chain place before [] small chain all = record { to = place; last = before; goes = (refl, refl); end = chain }
  goes_chain place before (a ∷ addrs) small (is, more) all =
      let P = λ (addr : ℕ). is_listed bytes told word addr ≡ true in
      let listed : is_listed bytes told word a ≡ true = All-head P a addrs all in
      let g = goes_chain (a - frame_in word + 8) a addrs small (subst (λ (n : ℕ). ChainFrom bytes n addrs) (sym (small_next a small listed)) more) (All-tail P a addrs all) in
      record {
        to = g.to;
        last = g.last;
        goes = (is, and_from _ _ listed (ap (λ (t : Bool). t || number_at (a + 8 * leader_words (a - 16) bytes) bytes == before) small), g.goes);
        end = g.end;
      }

  -- the block at an address, with its words as its leader tells
  abbrev pub sized : ℕ → ℕ × ℕ
  sized addr = (addr, leader_words (addr - 16) bytes)

  -- a list of large blocks is linked both ways
  pub links_of : (place before : ℕ) (addrs : List ℕ) (to last : ℕ) → is_small_list word ≡ false → ListGoes bytes told word place before addrs to last →
      number_at to bytes ≡ 0 → Links bytes place before (map sized addrs)
  unfolding Links
  links_of place before [] to last large (at, is_last) end = ap (λ (n : ℕ). number_at n bytes) at ∙ end
  links_of place before (a ∷ addrs) to last large (is, ok, more) end =
      let both = and_parts (is_listed bytes told word a) (has_previous bytes word before a) ok in
      let previous : (false || number_at (a + 8 * leader_words (a - 16) bytes) bytes == before) ≡ true =
      sym (ap (λ (t : Bool). t || number_at (a + 8 * leader_words (a - 16) bytes) bytes == before) large) ∙ both.1 in (
        is,
        eqb-true _ _ previous,
        subst (λ (n : ℕ). Links bytes n a (map sized addrs)) (large_next a large both.0)
            (links_of (a - frame_in word + 8) a addrs to last large more end),
      )

  pub goes_links : (place before : ℕ) (blocks : List (ℕ × ℕ)) → is_small_list word ≡ false → Links bytes place before blocks →
      All (λ block. is_listed bytes told word block.0 ≡ true) blocks → All (λ block. block.1 ≡ leader_words (block.0 - 16) bytes) blocks →
      GoesOver bytes told word place before (map (λ block. block.0) blocks)
  unfolding Links
  goes_links place before [] large links all sizes = record { to = place; last = before; goes = (refl, refl); end = links }
  goes_links place before (b ∷ blocks) large (is, previous, more) all sizes =
      let P = λ (block : ℕ × ℕ). is_listed bytes told word block.0 ≡ true in
      let S = λ (block : ℕ × ℕ). block.1 ≡ leader_words (block.0 - 16) bytes in
      let listed : is_listed bytes told word b.0 ≡ true = All-head P b blocks all in
      let size : b.1 ≡ leader_words (b.0 - 16) bytes = All-head S b blocks sizes in
      let g = goes_links (b.0 - frame_in word + 8) b.0 blocks large (subst (λ (n : ℕ). Links bytes n b.0 blocks) (sym (large_next b.0 large listed)) more)
      (All-tail P b blocks all) (All-tail S b blocks sizes) in
      record {
        to = g.to;
        last = g.last;
        goes = (
          is,
          and_from _ _ listed
              (ap (λ (t : Bool). t || number_at (b.0 + 8 * leader_words (b.0 - 16) bytes) bytes == before) large
              ∙ eq-eqb _ _ (ap (λ (n : ℕ). number_at (b.0 + 8 * n) bytes) (sym size) ∙ previous)),
          g.goes,
        );
        end = g.end;
      }
