-- How the command ends that replays a log.
use Rattle.std.proofs.Common.{◌≡◌, ℕ, List, [], refl, sym, subst, append-nil, inl, inr}
use Rattle.std.specs.Prelude.{Option, Some, None, Result, Ok, Err, IsErrOf, IsSome, IfSome, IsSomeAnd}
use Rattle.bp_base.specs.Worlds.{Holdings, Opens}
use Rattle.bp_base.specs.Pieces.{Appends, AppendsFront}
use Rattle.bp_log.specs.declared.verdict.Verdict.{Verdict}
use Rattle.bp_reader.specs.declared.fault.LogFault.TheVariants as log_fault
use Rattle.bp_replay.specs.declared.fault.ReplayFault.{ReplayFault}
use Rattle.bp_replay.specs.Courses.{text_in}
use Rattle.bp_replay.specs.Replays as replays
use Rattle.bp_cli.specs.declared.conclusion.Conclusion.{Conclusion}
use Rattle.bp_cli.specs.declared.conclusion.Conclusion.TheVariants.{NoMemory}
use Rattle.bp_cli.specs.Outside.{Outside, ReadFailed, WriteFailed, IsAsBefore}
use Rattle.bp_base.specs.declared.outside.WorldError.{WorldError}
use Rattle.bp_args.specs.declared.command.Command.TheVariants as command
use Rattle.bp_cli.specs.inner.Outcomes.{unopened_of}
use Rattle.bp_cli.specs.Endings.{IsCaused, EndsIn}
use Rattle.bp_cli.specs.Replaying.{ReplaysTo, replayed_of}

-- the whole is a front
pub front_of : (before after : Option (List ℕ)) (text : List ℕ) → Appends before text after → AppendsFront before text after
front_of before after text h = (text, [], sym (append-nil text), h)

-- ---- a replay

prints_partly : (ended : Result Verdict ReplayFault) (b : Option (List ℕ)) (t : List ℕ) (a : Option (List ℕ)) → replays.Prints ended b t a → AppendsFront b t a
prints_partly (Ok v) b t a p = front_of b a t p
prints_partly (Err (ReplayFault.Log fault)) b t a p = front_of b a t p
prints_partly (Err (ReplayFault.Differs number expected other)) b t a p = front_of b a t p
prints_partly (Err ReplayFault.Program) b t a p = front_of b a t p
prints_partly (Err ReplayFault.Write) b t a p = p
prints_partly (Err ReplayFault.Memory) b t a p = p

replays_partly : (bytes : List ℕ) (b a : Option (List ℕ)) (ended : Result Verdict ReplayFault) → replays.IsReplay bytes b a ended → replays.IsReplay bytes b a (Err ReplayFault.Memory)
replays_partly bytes b a ended (inl h) = inl (tt, h.1)
replays_partly bytes b a ended (inr r) =
    inr (record {
      course = r.course;
      rest = r.rest;
      heads = r.heads;
      stage = r.stage;
      left = r.left;
      follows = r.follows;
      ends = tt;
      prints = prints_partly ended b (text_in r.course) a r.prints;
    })

some_under : (o : Option (List ℕ)) (P Q : List ℕ → Type 0) → ((bytes : List ℕ) → P bytes → Q bytes) → IsSomeAnd o P → IsSomeAnd o Q
some_under None P Q f h = absurd h
some_under (Some bytes) P Q f h = f bytes h

-- of what the world holds under the name, where it tells it
pub told_under : (name : List ℕ) (holds : Option Holdings) (P Q : List ℕ → Type 0) → ((bytes : List ℕ) → P bytes → Q bytes) → IfSome holds (λ held. IsSomeAnd (held name) P) → IfSome holds (λ held. IsSomeAnd (held name) Q)
told_under name None P Q f h = tt
told_under name (Some held) P Q f h = some_under (held name) P Q f h

-- however it ended, memory may run out for the note
pub replay_partly : (name : List ℕ) (before after : Outside) (c : Conclusion) → ReplaysTo name before after c → ReplaysTo name before after NoMemory
replay_partly name before after c r =
    record { ended = Err ReplayFault.Memory; is_conclusion = refl; ends = told_under name before.holds _ _ (λ bytes h. replays_partly bytes before.printed after.printed r.ended h) r.ends; holds = r.holds }

caused_by : (ended : Result Verdict ReplayFault) (before after : Outside) → (IsErrOf ended (ReplayFault.Log log_fault.Read) → ReadFailed before after) → (IsErrOf ended ReplayFault.Write → WriteFailed before after) →
    IsCaused before after (replayed_of ended)
caused_by (Err (ReplayFault.Log log_fault.Read)) before after r w = r refl
caused_by (Err ReplayFault.Write) before after r w = w refl
caused_by _ before after r w = tt

-- a failure of a replay has its cause
pub caused : (ended : Result Verdict ReplayFault) (c : Conclusion) (before after : Outside) → c ≡ replayed_of ended → (IsErrOf ended (ReplayFault.Log log_fault.Read) → ReadFailed before after) → (IsErrOf ended ReplayFault.Write → WriteFailed before after) →
    IsCaused before after c
caused ended c before after e r w = subst (λ (x : Conclusion). IsCaused before after x) (sym e) (caused_by ended before after r w)

nothing : IsSome {T = List ℕ} None → ⊥
nothing s = cc

there : (o : Option (List ℕ)) (P : List ℕ → Type 0) → IsSome o → IfSome o P → IsSomeAnd o P
there None P s h = absurd (nothing s)
there (Some bytes) P s h = h

-- what is left of an input is what the world holds
pub held_told : (holds : Option Holdings) (name : List ℕ) (left : Option (List ℕ)) (P : List ℕ → Type 0) → Opens holds name left → IfSome left P → IfSome holds (λ held. IsSomeAnd (held name) P)
held_told None name left P o h = tt
held_told (Some held) name left P o h = there (held name) P o.0 (subst (λ (x : Option (List ℕ)). IfSome x P) o.1 h)

-- the log was not opened
pub unopened : (log : List ℕ) (error : WorldError) (c : Conclusion) (before after : Outside) → c ≡ unopened_of error → (error ≡ WorldError.Failed → ReadFailed before after) → IsAsBefore before after → EndsIn (Some (command.Replay log)) [] before after c
unopened log WorldError.Failed c before after e k same = subst (λ (x : Conclusion). EndsIn (Some (command.Replay log)) [] before after x) (sym e) (k refl, inl (inl refl, (same, refl)))
unopened log WorldError.Memory c before after e k same = subst (λ (x : Conclusion). EndsIn (Some (command.Replay log)) [] before after x) (sym e) (tt, inl (inr refl, (same, refl)))
