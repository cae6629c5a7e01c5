-- What a daemon does next.
use Rattle.std.proofs.Common.{◌≡◌, ◌∙◌, ◌<◌, ◌+◌, ◌^◌, ◌||◌, ℕ, suc, zero, List, [], ◌∷◌, Bool, true, false, true≢false, None, Some, arith, refl, sym, ap}
use Rattle.std.proofs.lemmas.Bool.Decides.{nat_tests}
use Rattle.std.specs.Option.{option_map_or}
use Rattle.std.specs.Prelude.{if◌then◌else◌, is_some, length, nat_le, slice_get, slice_index_or}
use Rattle.law_runs.proofs.CoreLemmas.{or_true}
use Rattle.sdr_machine.specs.Core.{has_left}
use Rattle.sdr_machine.specs.Roll.{Roll}
use Rattle.sdr_model.specs.declared.event.Event.TheVariants as events
use Rattle.sdr_model.specs.declared.event.Event.{Event}
use Rattle.sdr_model.specs.declared.event.Leave.{Leave}
use Rattle.sdr_model.specs.declared.script.ScriptStep.{ScriptStep}
use Rattle.sdr_words.specs.Bindings.{event_of}
use Rattle.sdr_words.specs.Events.{is_begin_or_look}
use Rattle.sdr_daemon.specs.Coming.{coming_at, coming_of, coming_with, is_over, leaves_early}
use Rattle.sdr_daemon.specs.Progressing.{ScriptedCore, steps_ahead}
use Rattle.sdr_daemon.specs.TakingTurns.{LeavesNext, MaySayNext, is_gone}
use Rattle.sdr_daemon.specs.Turns.{is_refused_outside}
use Rattle.sdr_daemon.specs.declared.coming.Coming.TheVariants as comings
use Rattle.sdr_daemon.specs.declared.coming.Coming.{Coming}
use Rattle.sdr_daemon.specs.declared.script_place.ScriptPlace.{ScriptPlace}

leaves_at_once : (r : Roll) (script : List ScriptStep) (s : ScriptPlace) → leaves_early r s ≡ true → LeavesNext r script s
leaves_at_once r script s early = ap (λ b. if b then comings.Comes s.daemon 0 else coming_with s (steps_ahead script s.daemon s.place)) early

-- it leaves where it means to
pub leaves_meant : (r : Roll) (script : List ScriptStep) (s : ScriptPlace) (leave : Leave) → s.leaving ≡ Some leave → LeavesNext r script s
leaves_meant r script s leave meant =
    leaves_at_once r script s
    (ap (λ o. is_some r.failed || is_some o || nat_le (2 ^ 40) (s.drawn + 1)) meant ∙ ap (λ b. b || nat_le (2 ^ 40) (s.drawn + 1)) (or_true (is_some r.failed)))

-- what a daemon does with a line ahead that is refused outside a transaction, or isn't
abbrev pub with_line : ScriptPlace → ScriptStep → Bool → Coming
with_line s step refused = if refused then comings.Passes else comings.Comes s.daemon step.line

-- where nothing makes it leave, its next line comes
pub comes_with : (r : Roll) (script : List ScriptStep) (s : ScriptPlace) (step : ScriptStep) (rest : List ScriptStep) → r.failed ≡ None → s.leaving ≡ None → s.drawn + 1 < 2 ^ 40
    → steps_ahead script s.daemon s.place ≡ step ∷ rest → coming_of r script s ≡ with_line s step (is_refused_outside (event_of s.names step))
comes_with r script s step rest sound stays few ahead =
    let room : nat_le (2 ^ 40) (s.drawn + 1) ≡ false = grind (arith, nat_tests) in
    (λ i. if is_some (sound i) || is_some (stays i) || room i then comings.Comes s.daemon 0 else coming_with s (ahead i))

module _ (r : Roll) (script : List ScriptStep) (s : ScriptPlace) (step : ScriptStep) (after : ℕ) (event : Event) (next : MaySayNext script r s step after event) where
  by_event : coming_of r script s ≡ with_line s step (is_refused_outside event)
  by_event = comes_with r script s step (steps_ahead script s.daemon after) next.sound next.stays next.few next.ahead ∙ ap (λ ev. with_line s step (is_refused_outside ev)) next.made

  pub comes_by : is_refused_outside event ≡ false → coming_of r script s ≡ comings.Comes s.daemon step.line
  comes_by comes = by_event ∙ ap (with_line s step) comes

  pub passes_by : is_refused_outside event ≡ true → coming_of r script s ≡ comings.Passes
  passes_by passes = by_event ∙ ap (with_line s step) passes

-- a begin or a look is not refused outside a transaction
pub comes_if : (event : Event) → is_begin_or_look event ≡ true → is_refused_outside event ≡ false
comes_if events.Begin is = refl
comes_if (events.Look ticket) is = refl
comes_if event is = absurd (true≢false (sym is))

there_is : (gone : ScriptPlace → Bool) (next : ScriptPlace → Coming) (these : List ScriptPlace) (place : ℕ) (d : ScriptPlace) → option_map_or gone (slice_get these place) true ≡ false
    → option_map_or (λ (s : ScriptPlace). if gone s then comings.Gone else next s) (slice_get these place) comings.Gone ≡ next (slice_index_or these place d)
there_is gone next [] place d stays = absurd (true≢false stays)
there_is gone next (x ∷ these) zero d stays = ap (λ b. if b then comings.Gone else next x) stays
there_is gone next (x ∷ these) (suc place) d stays = there_is gone next these place d stays

-- what comes at a place where a daemon takes turns
pub coming_there : {T : Type 0} (script : List ScriptStep) (place : ℕ) (v : ScriptedCore T) (d : ScriptPlace) → is_gone place v ≡ false
    → coming_at script place v ≡ coming_of v.core.lock.roll script (slice_index_or v.progress place d)
coming_there script place v d stays =
    there_is (λ (s : ScriptPlace). has_left v.core.lock.roll s.daemon) (coming_of v.core.lock.roll script) v.progress place d stays

over_as : (gone : ScriptPlace → Bool) (next : ScriptPlace → Coming) → ((s : ScriptPlace) → is_over (next s) ≡ false) → (these : List ScriptPlace) (place : ℕ)
    → is_over (option_map_or (λ (s : ScriptPlace). if gone s then comings.Gone else next s) (slice_get these place) comings.Gone) ≡ option_map_or gone (slice_get these place) true
over_as gone next never [] place = refl
over_as gone next never (x ∷ these) zero = by (gone x)
  where
    by : (b : Bool) → is_over (if b then comings.Gone else next x) ≡ b
    by true = refl
    by false = never x
over_as gone next never (x ∷ these) (suc place) = over_as gone next never these place

-- something comes to a daemon that hasn't left
pub something : (r : Roll) (script : List ScriptStep) (s : ScriptPlace) → is_over (coming_of r script s) ≡ false
something r script s = by (leaves_early r s) (steps_ahead script s.daemon s.place)
  where
    line : (step : ScriptStep) (refused : Bool) → is_over (with_line s step refused) ≡ false
    line step true = refl
    line step false = refl

    by : (b : Bool) (ahead : List ScriptStep) → is_over (if b then comings.Comes s.daemon 0 else coming_with s ahead) ≡ false
    by true ahead = refl
    by false [] = refl
    by false (step ∷ rest) = line step (is_refused_outside (event_of s.names step))

-- nothing comes just where no daemon takes turns
pub over_is : {T : Type 0} (script : List ScriptStep) (place : ℕ) (v : ScriptedCore T) → is_over (coming_at script place v) ≡ is_gone place v
over_is script place v =
    over_as (λ (s : ScriptPlace). has_left v.core.lock.roll s.daemon) (coming_of v.core.lock.roll script) (something v.core.lock.roll script) v.progress place

gone_there : (gone : ScriptPlace → Bool) (these : List ScriptPlace) (place : ℕ) (d : ScriptPlace) → place < length these
    → option_map_or gone (slice_get these place) true ≡ gone (slice_index_or these place d)
gone_there gone [] place d inside = absurd (omega (arith, inside))
gone_there gone (s ∷ these) zero d inside = refl
gone_there gone (s ∷ these) (suc place) d inside = gone_there gone these place d (omega (arith, inside))

-- a daemon at a place takes no turns where it has left
pub gone_is : {T : Type 0} (place : ℕ) (v : ScriptedCore T) (d : ScriptPlace) → place < length v.progress → is_gone place v ≡ has_left v.core.lock.roll (slice_index_or v.progress place d).daemon
gone_is place v d inside = gone_there (λ (s : ScriptPlace). has_left v.core.lock.roll s.daemon) v.progress place d inside

gone_as : (gone : ScriptPlace → Bool) (next : ScriptPlace → Coming) (these : List ScriptPlace) (place : ℕ) → option_map_or gone (slice_get these place) true ≡ true
    → option_map_or (λ (s : ScriptPlace). if gone s then comings.Gone else next s) (slice_get these place) comings.Gone ≡ comings.Gone
gone_as gone next [] place left = refl
gone_as gone next (s ∷ these) zero left = ap (λ b. if b then comings.Gone else next s) left
gone_as gone next (s ∷ these) (suc place) left = gone_as gone next these place left

-- nothing comes where no daemon takes turns
pub nothing_comes : {T : Type 0} (script : List ScriptStep) (place : ℕ) (v : ScriptedCore T) → is_gone place v ≡ true → coming_at script place v ≡ comings.Gone
nothing_comes script place v left =
    gone_as (λ (s : ScriptPlace). has_left v.core.lock.roll s.daemon) (coming_of v.core.lock.roll script) v.progress place left
