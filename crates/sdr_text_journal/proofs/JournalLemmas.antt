-- A journal that is printed piece by piece.
use Rattle.std.proofs.Common.{◌≡◌, ◌∙◌, ◌++◌, List, ap, subst, sym, take, drop, take-append-drop, ℕ}
use Rattle.std.proofs.lemmas.Grind.{flat_map-append}
use Rattle.std.specs.declared.option.Option.{Option}
use Rattle.std.specs.Io.KnownBytes.{Appends}
use Rattle.sdr_base.proofs.WrittenLemmas.{GoesOut, goes_more, goes_part}
use Rattle.sdr_base.specs.Written.{AppendsPart}
use Rattle.sdr_model.specs.declared.journal.Entry.{Entry}
use Rattle.sdr_text.specs.JournalText.{entry_text, journal_text}

-- the text of a journal is that of its first entries and that of the others
journal_split : (rest : List Entry) (n : ℕ) → journal_text rest ≡ journal_text (take n rest) ++ journal_text (drop n rest)
journal_split rest n = ap journal_text (sym (take-append-drop n rest)) ∙ flat_map-append entry_text (take n rest) (drop n rest)

module _ (old now later : Option (List ℕ)) (all : List ℕ) (rest front after : List Entry) (n : ℕ) (first : front ≡ take n rest) (others : after ≡ drop n rest)
    (goes : GoesOut old now all (journal_text rest)) where
  next_goes : GoesOut old now all (journal_text front ++ journal_text after)
  next_goes = subst (GoesOut old now all) (journal_split rest n ∙ (λ i. journal_text (sym first i) ++ journal_text (sym others i))) goes

  -- the first entries went out
  pub entries_out : Appends now later (journal_text front) → GoesOut old later all (journal_text after)
  entries_out went = goes_more old now later all (journal_text front) (journal_text after) next_goes went

  -- a part of them went out, and nothing more
  pub entries_part : AppendsPart now later (journal_text front) → AppendsPart old later all
  entries_part went = goes_part old now later all (journal_text front) (journal_text after) next_goes went
