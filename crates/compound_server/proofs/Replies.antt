-- How a reply to COMPOUND is spelled: its status, the tag, and the results behind their count.
use Rattle.std.proofs.Common.{◌≡◌, ℕ, List, [], ◌∷◌, ◌++◌, length, refl, sym, ap, ◌∙◌, append_assoc, append-nil}
use Rattle.std.specs.List.{flat_map}
use Rattle.nfs_base.specs.declared.status.Status.{Status}
use Rattle.nfs_base.specs.Forms.{status}
use Rattle.nfs_compound.specs.declared.res.Res.{Res}
use Rattle.nfs_compound.specs.Results.{outcome, reply, res_status}
use Rattle.wire_xdr.specs.Parts.{list_spell}
use Rattle.wire_xdr.specs.Words.{word_bytes, opaque_bytes}
use Rattle.compound_server.specs.Refusals.{refused}
use Rattle.compound_server.specs.State.{refusal_bytes}
use Rattle.compound_server.proofs.Steps.{refused_spelled, refused_status}

abbrev pub reply_text : Status → List ℕ → List Res → List ℕ
reply_text s tag results = word_bytes s.number ++ (opaque_bytes tag ++ (word_bytes (length results) ++ flat_map outcome.spell results))

pub reply_spelled : (s : Status) (tag : List ℕ) (results : List Res) → reply.spell (record { status = s; tag = tag; results = results }) ≡ reply_text s tag results
unfolding reply list_spell status
reply_spelled s tag results = refl

-- a reply with one result
pub one_spelled : (s : Status) (tag text : List ℕ) (res : Res) → res_status res ≡ s → outcome.spell res ≡ text
    → reply.spell (record { status = res_status res; tag = tag; results = res ∷ [] }) ≡ (word_bytes s.number ++ (opaque_bytes tag ++ word_bytes 1)) ++ text
one_spelled s tag text res is spelled =
    reply_spelled (res_status res) tag (res ∷ [])
    ∙ ap (λ (t : Status). reply_text t tag (res ∷ [])) is
    ∙ ap (λ (bytes : List ℕ). word_bytes s.number ++ (opaque_bytes tag ++ (word_bytes 1 ++ bytes))) (append-nil (outcome.spell res) ∙ spelled)
    ∙ ap (λ (bytes : List ℕ). word_bytes s.number ++ bytes) (sym (append_assoc (opaque_bytes tag) (word_bytes 1) text))
    ∙ sym (append_assoc (word_bytes s.number) (opaque_bytes tag ++ word_bytes 1) text)

pub refusal_spelled : (tag : List ℕ) (op : ℕ) (s : Status)
    → refusal_bytes tag op s ≡ (word_bytes s.number ++ (opaque_bytes tag ++ word_bytes 1)) ++ (word_bytes op ++ word_bytes s.number)
refusal_spelled tag op s = one_spelled s tag (word_bytes op ++ word_bytes s.number) (refused op s) (refused_status op s) (refused_spelled op s)
