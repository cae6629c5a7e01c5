-- The shapes of the rows of the catalogue.
use Rattle.std.proofs.Common.{◌≡◌, ℕ, ◌<◌, suc, List, [], ◌∷◌, ◌++◌, true, false, cond, Some, None, map, length, get_or, nat_eq, refl, sym, ap, ◌∙◌, subst, arith}
use Rattle.std.specs.Cmp.Lexicographic.{pointwise}
use Rattle.std.specs.List.{count_by, remove, sum_by}
use Rattle.std.specs.Prelude.{All, slice_get}
use Rattle.std.proofs.lemmas.List.{length-map, map-append}
use Rattle.std.proofs.lemmas.List.Edits.{insert_end}
use Rattle.std.proofs.lemmas.List.Sums.{sum_by-append, sum_by-remove}
use Rattle.law_steps.proofs.Changes.{Changes, none_marked, one_marked, swaps_names}
use Rattle.law_steps.proofs.DistinctLemmas.{count_by-cons, on_test, weight_of}
use Rattle.law_steps.proofs.EditLemmas.{All-insert, All-remove, IsDistinct-insert, IsDistinct-remove, map-remove}
use Rattle.law_steps.proofs.HashLemmas.{texts}
use Rattle.law_steps.proofs.HashShapes.{between}
use Rattle.law_steps.proofs.Shapes.{Shape, on_failed, on_some, on_none, reads, takes_one, does}
use Rattle.sdr_model.proofs.SumLemmas.{sum_by-map}
use Rattle.law_steps.proofs.ThingChanges.{in_takes}
use Rattle.law_steps.specs.MovesBlocks.{taken_needs, given_addresses}
use Rattle.sdr_model.specs.Steps.{taken_addresses, Outcome, gave}
use Rattle.sdr_model.specs.Accounts.{ticket_blocks}
use Rattle.sdr_model.specs.Limits.{longest_name, is_no_name}
use Rattle.sdr_model.specs.NameSteps as catalogue
use Rattle.sdr_model.specs.Names.{name_of, without_name}
use Rattle.sdr_model.specs.RowMoves.{block_of}
use Rattle.sdr_model.specs.Step.{is_answer}
use Rattle.sdr_model.specs.Things.{block_for_name, name_need}
use Rattle.sdr_model.specs.Valid.{AreDistinct, IsBetween, names_of}
use Rattle.sdr_model.specs.World.{World}
use Rattle.sdr_model.specs.declared.answer.Reply.TheVariants as replies
use Rattle.sdr_model.specs.declared.call.Call.TheVariants as calls
use Rattle.sdr_model.specs.declared.name.Name.{Name}

-- a name of no catalogue
pub no_name : Name
no_name = record { block = 0; name = []; kind = 0; object = 0 }

-- a name that isn't found is none of the names
not_among : (name : List ℕ) (ns : List Name) → name_of ns name ≡ None
    → count_by (pointwise nat_eq name) (map (λ (n : Name). n.name) ns) ≡ 0
not_among name [] none = refl
not_among name (n ∷ ns) none =
    let rest = not_among name ns in
    on_test (pointwise nat_eq name n.name)
    (λ e. let some : Some n ≡ None = sym (ap (λ b. cond b (Some n) (name_of ns name)) e) ∙ none in absurd cc)
    (λ e. omega (
      arith,
      count_by-cons (pointwise nat_eq name) n.name (map (λ (n : Name). n.name) ns),
      weight_of e,
      rest (sym (ap (λ b. cond b (Some n) (name_of ns name)) e) ∙ none),
    ))

-- where the entry of a name stands, and the catalogue without it
pub record StandsAt (names : List Name) (name : List ℕ) (n : Name) : Type 0 where
  pub place : ℕ
  pub within : place < length names
  pub there : get_or names place no_name ≡ n
  pub without : without_name names name ≡ remove names place

pub stands_at : (name : List ℕ) (ns : List Name) (n : Name) → name_of ns name ≡ Some n → StandsAt ns name n
stands_at name [] n is = let none : None ≡ Some n = is in absurd cc
stands_at name (m ∷ ns) n is =
    let rest = stands_at name ns n in
    on_test (pointwise nat_eq name m.name)
    (λ e. let first : Some m ≡ Some n = sym (ap (λ b. cond b (Some m) (name_of ns name)) e) ∙ is in record {
      place = 0;
      within = omega arith;
      there = cc;
      without = ap (λ b. cond b ns (m ∷ without_name ns name)) e;
    })
    (λ e. let r = rest (sym (ap (λ b. cond b (Some m) (name_of ns name)) e) ∙ is) in record {
      place = suc r.place;
      within = omega (arith, r.within);
      there = r.there;
      without = ap (λ b. cond b ns (m ∷ without_name ns name)) e ∙ ap (λ rest. m ∷ rest) r.without;
    })

module _ {w : World} {o : Outcome} where
  -- a new name is last
  named : (name : List ℕ) (kind object : ℕ) → is_no_name (length name) ≡ false → name_of w.names name ≡ None
      → (addr : ℕ)
      → let n : Name = record { block = addr; name = name; kind = kind; object = object } in
      taken_needs o.moves ≡ name_need ∷ [] → taken_addresses o.moves ≡ addr ∷ [] → given_addresses o.moves ≡ []
      → o.after ≡ record w { names = w.names ++ n ∷ []; marks = w.marks ++ addr ∷ []; shown = [] }
      → is_answer o.reply ≡ true → Changes w o
  named name kind object short new addr needs takes gives is answered =
      let n : Name = record { block = addr; name = name; kind = kind; object = object } in
      let names : o.after.names ≡ w.names ++ n ∷ [] = ap (λ (v : World). v.names) is in
      let all : names_of o.after ≡ names_of w ++ name ∷ [] =
      ap (map (λ (n : Name). n.name)) names ∙ map-append (λ (n : Name). n.name) w.names (n ∷ []) in
      let last : names_of o.after ≡ _ = all ∙ sym (insert_end (names_of w) name) in
      swaps_names w o (record {
        taken = block_for_name n ∷ [];
        given = [];
        answered = answered;
        marks = one_marked w o addr _ is takes refl refl refl;
        needs = sym needs;
        takes = sym takes;
        gives = sym gives;
        things = ap (λ (v : World). v.things) is;
        tickets = ap (λ (v : World). ticket_blocks v.accounts) is;
        sums = λ measure.
            omega (
              arith,
              ap (λ ns. sum_by measure (map block_for_name ns)) names,
              ap (sum_by measure) (map-append block_for_name w.names (n ∷ [])),
              sum_by-append measure (map block_for_name w.names) (block_for_name n ∷ []),
            );
        names = λ limits. subst (All (λ name. IsBetween 1 longest_name (length name))) (sym last)
            (All-insert (λ name. IsBetween 1 longest_name (length name)) (names_of w) (length (names_of w)) name
            (omega arith) limits.names (between 1 longest_name (length name) short));
        distinct_names = λ limits. subst AreDistinct (sym last)
            (IsDistinct-insert texts (names_of w) (length (names_of w)) name
            (not_among name w.names new) limits.distinct_names);
      })

  pub catlg : (name : List ℕ) (kind object : ℕ) → catalogue.Catlg w o name kind object
      → Shape w (calls.Catlg name kind object) o
  catlg name kind object h =
      on_failed (is_no_name (length name)) _ h refl (λ short h.
      on_none (name_of w.names name) _ h (λ n. refl) (λ new made.
      takes_one name_need _ made refl (λ at. refl)
      (in_takes o.moves name_need _ made (λ addr moves did.
      named name kind object short new addr (ap taken_needs moves) (ap taken_addresses moves)
      (ap given_addresses moves) did.0 (ap is_answer did.1)))))

  pub find : (name : List ℕ) → catalogue.Find w o name → Shape w (calls.Find name) o
  find name h =
      on_failed (is_no_name (length name)) _ h refl (λ short h.
      on_some (name_of w.names name) _ h refl (λ n is r. reads r refl refl (λ at. refl) refl))

  -- a name goes
  unnamed : (name : List ℕ) (n : Name) → name_of w.names name ≡ Some n → o.moves ≡ gave (n.block ∷ [])
      → o.after ≡ record w { names = without_name w.names name; shown = [] } → o.reply ≡ replies.Done → Changes w o
  unnamed name n is moves did reply =
      let s = stands_at name w.names n is in
      let gone : o.after.names ≡ remove w.names s.place = ap (λ (v : World). v.names) did ∙ s.without in
      let all : names_of o.after ≡ remove (names_of w) s.place =
      ap (map (λ (n : Name). n.name)) gone ∙ map-remove (λ (n : Name). n.name) w.names s.place in
      let inside : s.place < length (names_of w) = omega (arith, s.within, length-map w.names (λ (n : Name). n.name)) in
      swaps_names w o (record {
        taken = [];
        given = block_for_name n ∷ [];
        answered = ap is_answer reply;
        marks = none_marked w o _ did (ap taken_addresses moves) refl refl refl;
        needs = sym (ap taken_needs moves);
        takes = sym (ap taken_addresses moves);
        gives = sym (ap given_addresses moves);
        things = ap (λ (v : World). v.things) did;
        tickets = ap (λ (v : World). ticket_blocks v.accounts) did;
        sums = λ measure.
            omega (
              arith,
              ap (λ ns. sum_by measure (map block_for_name ns)) gone,
              sum_by-map measure block_for_name (remove w.names s.place),
              sum_by-map measure block_for_name w.names,
              sum_by-remove (λ n. measure (block_for_name n)) w.names s.place no_name s.within,
              ap (λ n. measure (block_for_name n)) s.there,
            );
        names = λ limits. subst (All (λ name. IsBetween 1 longest_name (length name))) (sym all)
            (All-remove (λ name. IsBetween 1 longest_name (length name)) (names_of w) s.place inside limits.names);
        distinct_names = λ limits. subst AreDistinct (sym all)
            (IsDistinct-remove texts (names_of w) s.place [] inside limits.distinct_names);
      })

  pub uncatlg : (name : List ℕ) → catalogue.Uncatlg w o name → Shape w (calls.Uncatlg name) o
  uncatlg name h =
      on_failed (is_no_name (length name)) _ h refl (λ short h.
      on_some (name_of w.names name) _ h refl (λ n is d.
      does d refl (λ at. ap (λ n. gave (block_of n)) is)
      (unnamed name n is d.0 d.1 d.2)))

  pub entry : (place : ℕ) → catalogue.Entry w o place → Shape w (calls.Entry place) o
  entry place h = on_some (slice_get w.names place) _ h refl (λ n is r. reads r refl refl (λ at. refl) refl)
