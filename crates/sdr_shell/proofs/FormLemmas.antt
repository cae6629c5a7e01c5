-- Which form `live` and `still` answer.
use Rattle.std.proofs.Common.{◌≡◌, ◌&&◌, List, [], ◌∷◌, ℕ, Bool, true, false, Option, None, Some, ap, refl, sym, subst, true≢false}
use Rattle.std.specs.Prelude.{codes, nat_eq, if◌then◌else◌}
use Rattle.std.specs.Cmp.Lexicographic.{bytes_decides, pointwise}
use Rattle.std.specs.Rc.{rc_str_bytes}
use Rattle.std.specs.declared.alloc.Global.{Global}
use Rattle.std.specs.declared.rc.RcStr.{RcStr}
use Rattle.sdr_log.specs.declared.frame.Frame.{Frame}
use Rattle.sdr_forms.specs.Form.{asks_live, form_of, format_of, is_word, live_form, live_totals, load_of, still_form}
use Rattle.sdr_forms.specs.declared.form.Form.{Form}
use Rattle.sdr_forms.specs.declared.form.Form.TheVariants as forms

-- a word that is `run` isn't `format`
run_is_not_format : (word : RcStr Global) → is_word word (codes "run") ≡ true → is_word word (codes "format") ≡ false
run_is_not_format word is =
    subst (λ (l : List ℕ). pointwise nat_eq l (codes "format") ≡ false) (sym ((bytes_decides (rc_str_bytes word) (codes "run")).0 is)) refl

-- nor is it `load`
run_is_not_load : (word : RcStr Global) → is_word word (codes "run") ≡ true → is_word word (codes "load") ≡ false
run_is_not_load word is =
    subst (λ (l : List ℕ). pointwise nat_eq l (codes "load") ≡ false) (sym ((bytes_decides (rc_str_bytes word) (codes "run")).0 is)) refl

-- a form that is told first is `run`
live_first : (first : Bool) (other : Option Form) → first ≡ true
    → live_form (if first then Some (forms.Run false) else other) ≡ (if first then Some (forms.Run false) else other)
live_first true other is = refl
live_first false other is = absurd (true≢false (sym is))

-- or there is none
live_none : (later : Bool) (other : Option Form) → later ≡ false → live_form (if later then other else None) ≡ (if later then other else None)
live_none true other is = absurd (true≢false is)
live_none false other is = refl

-- two words are `run` or no form, where they aren't `load`
live_two : (first second load : Bool) (rounds : Option ℕ) → load ≡ false
    → live_form (if first && second then Some (forms.Run true) else (if load then load_of rounds else None))
    ≡ (if first && second then Some (forms.Run true) else (if load then load_of rounds else None))
live_two first second true rounds is = absurd (true≢false is)
live_two true true false rounds is = refl
live_two true false false rounds is = refl
live_two false second false rounds is = refl

-- `live` answers words that are for it by their form
pub live_words : (words : List (RcStr Global)) → asks_live words ≡ true → live_form (form_of words) ≡ form_of words
live_words [] is = refl
live_words (word ∷ []) is = live_first (is_word word (codes "run")) _ is
live_words (word ∷ second ∷ []) is =
    live_two (is_word word (codes "run")) (is_word second (codes "totals")) (is_word word (codes "load")) _ (run_is_not_load word is)
live_words (word ∷ log ∷ heap ∷ []) is = live_none (is_word word (codes "format")) _ (run_is_not_format word is)
live_words (word ∷ second ∷ third ∷ fourth ∷ words) is = refl

-- no other form of one word is `run`
still_first : (first dry replay recover inspect : Bool) → first ≡ false
    → still_form (if first then Some (forms.Run false) else (if dry then Some forms.Dry else (if replay then Some forms.Replay
    else (if recover then Some forms.Recover else (if inspect then Some forms.Inspect else None)))))
    ≡ (if first then Some (forms.Run false) else (if dry then Some forms.Dry else (if replay then Some forms.Replay
    else (if recover then Some forms.Recover else (if inspect then Some forms.Inspect else None)))))
still_first true dry replay recover inspect is = absurd (true≢false is)
still_first false true replay recover inspect is = refl
still_first false false true recover inspect is = refl
still_first false false false true inspect is = refl
still_first false false false false true is = refl
still_first false false false false false is = refl

-- nor one of two
still_two : (first second load : Bool) (rounds : Option ℕ) → first ≡ false
    → still_form (if first && second then Some (forms.Run true) else (if load then load_of rounds else None))
    ≡ (if first && second then Some (forms.Run true) else (if load then load_of rounds else None))
still_two true second load rounds is = absurd (true≢false is)
still_two false second true (Some rounds) is = refl
still_two false second true None is = refl
still_two false second false rounds is = refl

-- nor one of three
still_format : (format : Bool) (frame : Option Frame)
    → still_form (if format then format_of frame else None) ≡ (if format then format_of frame else None)
still_format true (Some frame) = refl
still_format true None = refl
still_format false frame = refl

-- `still` answers words that are for it by their form
pub still_words : (words : List (RcStr Global)) → asks_live words ≡ false → still_form (form_of words) ≡ form_of words
still_words [] is = refl
still_words (word ∷ []) is =
    still_first (is_word word (codes "run")) (is_word word (codes "dry")) (is_word word (codes "replay")) (is_word word (codes "recover"))
    (is_word word (codes "inspect")) is
still_words (word ∷ second ∷ []) is =
    still_two (is_word word (codes "run")) (is_word second (codes "totals")) (is_word word (codes "load")) _ is
still_words (word ∷ log ∷ heap ∷ []) is = still_format (is_word word (codes "format")) _
still_words (word ∷ second ∷ third ∷ fourth ∷ words) is = refl

-- the form that is `run` is the one that `live` answers
pub live_known : (form : Option Form) (totals : Bool) → live_totals form ≡ Some totals → live_form form ≡ Some (forms.Run totals)
live_known (Some (forms.Run asked)) totals is = ap (λ (b : Bool). Some (forms.Run b)) (cc is)
live_known (Some (forms.Load rounds)) totals is = absurd (cc is)
live_known (Some forms.Dry) totals is = absurd (cc is)
live_known (Some forms.Replay) totals is = absurd (cc is)
live_known (Some forms.Recover) totals is = absurd (cc is)
live_known (Some forms.Inspect) totals is = absurd (cc is)
live_known (Some (forms.Format frame)) totals is = absurd (cc is)
live_known None totals is = absurd (cc is)

-- and there is no other
pub live_unknown : (form : Option Form) → live_totals form ≡ None → live_form form ≡ None
live_unknown (Some (forms.Run asked)) is = absurd (cc is)
live_unknown (Some (forms.Load rounds)) is = refl
live_unknown (Some forms.Dry) is = refl
live_unknown (Some forms.Replay) is = refl
live_unknown (Some forms.Recover) is = refl
live_unknown (Some forms.Inspect) is = refl
live_unknown (Some (forms.Format frame)) is = refl
live_unknown None is = refl
