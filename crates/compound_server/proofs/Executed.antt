-- A compound that was executed: its reply and what it leaves.
use Rattle.std.proofs.Common.{◌≡◌, ℕ, ◌+◌, List, [], ◌∷◌, ◌++◌, length, Result, Ok, Err, IfOk, refl, sym, ap, subst, ◌∙◌, append_assoc, arith}
use Rattle.std.specs.List.{flat_map}
use Rattle.file_ops.specs.declared.sessions.SequenceArgs.{SequenceArgs}
use Rattle.nfs_compound.specs.declared.res.Res.{Res}
use Rattle.nfs_compound.specs.Results.{outcome, reply}
use Rattle.nfs_compound.specs.Walk.{last_status}
use Rattle.server_volume.specs.declared.used.Used.{Used}
use Rattle.server_volume.specs.Moments.{Counted}
use Rattle.server_volume.specs.MomentLaws.{counted_none}
use Rattle.server_volume.specs.Store.{Seat}
use Rattle.sess_slots.specs.declared.answers.Place.{Place}
use Rattle.sess_slots.specs.Begins.{finished}
use Rattle.wire_xdr.specs.Words.{word_bytes, opaque_bytes}
use Rattle.compound_server.specs.declared.compounds.Reply.{Reply}
use Rattle.compound_server.specs.declared.server.Server.{Server}
use Rattle.compound_server.specs.declared.who.Who.{Who}
use Rattle.compound_server.specs.Compounds.{executed, sequence_done}
use Rattle.compound_server.specs.State.{Given, given_of}
use Rattle.compound_server.specs.Walking.{Walked, Results, results_of}
use Rattle.compound_server.proofs.Replies.{reply_spelled}

-- a reply of SEQUENCE and the results behind it, as it is put together
abbrev pub sequence_text : (tag : List ℕ) → SequenceArgs → (bytes : List ℕ) → (status count : ℕ) → List ℕ
sequence_text tag a bytes status count =
    (word_bytes status ++ (opaque_bytes tag ++ word_bytes count)) ++ (outcome.spell (sequence_done a) ++ bytes)

last_behind : (tag : List ℕ) (a : SequenceArgs) (rs : List Res) → (last_status (sequence_done a ∷ rs)).number ≡ (last_status rs).number
last_behind tag a [] = refl
last_behind tag a (r ∷ rs) = refl

sequence_spelled : (tag : List ℕ) (a : SequenceArgs) (rs : List Res)
    → reply.spell (record { status = last_status (sequence_done a ∷ rs); tag = tag; results = sequence_done a ∷ rs })
    ≡ sequence_text tag a (flat_map outcome.spell rs) (last_status rs).number (1 + length rs)
sequence_spelled tag a rs =
    let more : length (sequence_done a ∷ rs) ≡ 1 + length rs = omega arith in
    let text = outcome.spell (sequence_done a) ++ flat_map outcome.spell rs in
    reply_spelled (last_status (sequence_done a ∷ rs)) tag (sequence_done a ∷ rs)
    ∙ ap (λ (n : ℕ). word_bytes n ++ (opaque_bytes tag ++ (word_bytes (length (sequence_done a ∷ rs)) ++ text))) (last_behind tag a rs)
    ∙ ap (λ (n : ℕ). word_bytes (last_status rs).number ++ (opaque_bytes tag ++ (word_bytes n ++ text))) more
    ∙ ap (λ (bytes : List ℕ). word_bytes (last_status rs).number ++ bytes) (sym (append_assoc (opaque_bytes tag) (word_bytes (1 + length rs)) text))
    ∙ sym (append_assoc (word_bytes (last_status rs).number) (opaque_bytes tag ++ word_bytes (1 + length rs)) text)

-- what is left, by the results that the code shows
abbrev pub left_by : {X : Type 0} → Who → Place → (tag : List ℕ) → SequenceArgs → Results X → Given X
left_by who place tag a r =
    let text = sequence_text tag a r.bytes r.status r.count in
    record {
      state = record { machine = r.course.going.machine; sessions = finished r.course.sessions place who.root text who.second };
      used = r.course.going.used;
      body = text;
    }

pub executed_as : {X : Type 0} (who : Who) (place : Place) (tag : List ℕ) (a : SequenceArgs) (w : Walked X) (r : Results X)
    → results_of w [] 1 ≡ r → executed who place tag a w ≡ left_by who place tag a r
executed_as who place tag a w r e =
    ap (λ (body : List ℕ). record {
      state = record { machine = w.course.going.machine; sessions = finished w.course.sessions place who.root body who.second };
      used = w.course.going.used;
      body = body;
    }) (sequence_spelled tag a w.results)
    ∙ ap (left_by who place tag a) e

-- ---- an answer without a call on the volume

pub ran_told : {D X E : Type 0} (told : Type 0) (size : D → ℕ) (new : Server D X) (r : Result Reply E) (g : Given X) (old after : Seat)
    → IfOk r (λ reply. given_of size new reply ≡ g) → g.used ≡ [] → after ≡ old → IfOk r (λ reply. Counted told old after [] reply.used)
ran_told told size new (Err e) g old after gives none same = tt
ran_told told size new (Ok reply) g old after gives none same =
    subst (λ (s : Seat). Counted told old s [] reply.used) (sym same)
    (subst (λ (us : List Used). Counted told old old [] us) (sym (ap (λ t. t.used) gives ∙ none)) (counted_none told old []))
