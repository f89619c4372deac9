-- What a principal starts is its own token, and the INIT that carries it is its end's.
use Rattle.std.proofs.Common.{◌≡◌, ℕ, ◌<◌, ◌≤◌, ◌^◌, List, length, Option, Some, None, refl, ap, subst, ◌∙◌}
use Rattle.std.specs.Prelude.{IfSome, option_and_then, option_map}
use Rattle.gss_ctx.specs.Init.{init_message}
use Rattle.gss_mech.specs.Tokens.{IsAgreed, IsMet, IsNonce}
use Rattle.gss_mech.specs.declared.mechanism.Accepted.{Accepted}
use Rattle.mount.specs.Sending as sends
use Rattle.mount.specs.State.{Mounted, kept_in}
use Rattle.mount.specs.declared.machine.SendAt.{SendAt}
use Rattle.mount.specs.declared.machine.Sent.{Sent}
use Rattle.nfs_base.specs.declared.seal.End.{End}
use Rattle.session_client.specs.Pending.{Beginning}
use Rattle.wire_spelling.specs.Calls.{begun_by}
use Rattle.caller_laws.specs.Good.{Identity, IsGood, IsOwnToken}
use Rattle.caller_laws.specs.Tokens.{known_by}
use Rattle.caller_laws.proofs.Faces.{some_is}
use Rattle.caller_laws.proofs.Spoken.{says_init}

found_in : (principal : List ℕ) (finish : List ℕ → Option (List ℕ)) (taken : Option Accepted) → IsMet principal finish taken
    → option_map (λ (a : Accepted). a.principal) taken ≡ Some principal
found_in principal finish None met = absurd met
found_in principal finish (Some a) met = ap Some met.0

pub own_token : {S : Type 0} (started : S → List ℕ → List ℕ → Option (List ℕ)) (accepted : S → List ℕ → List ℕ → Option Accepted)
    (finished : S → List ℕ → List ℕ → List ℕ → Option (List ℕ)) → IsAgreed started accepted finished
    → (mech : S) (principal nonce other token : List ℕ) (whose : List ℕ → Option End) (own : End) → IsNonce nonce → IsNonce other
    → whose principal ≡ Some own → started mech principal nonce ≡ Some token → IsOwnToken (known_by (accepted mech) other whose own) token
own_token started accepted finished law mech principal nonce other token whose own one two is begun = record {
  short = subst (λ (told : Option (List ℕ)). IfSome told (λ t. length t ≤ 4096)) begun (law.start_within mech principal nonce one);
  own = ap (option_and_then whose) (found_in principal (finished mech principal nonce) (accepted mech token other) (law.met mech principal token nonce other one two begun)) ∙ is;
}

-- ---- the INIT that goes out with it

abbrev init_sent : ℕ → List ℕ → Sent
init_sent xid token = record { bytes = init_message xid token; seal = None }

init_own : (who : Identity) (xid : ℕ) (token : List ℕ) (sent : Sent) → xid < 2 ^ 32 → IsOwnToken who token
    → Some (init_sent xid token) ≡ Some sent → begun_by who.accepts who.whose sent.bytes ≡ Some who.own
init_own who xid token sent small ours is =
    let same : init_message xid token ≡ sent.bytes = ap (λ (s : Sent). s.bytes) (some_is (init_sent xid token) sent is) in
    subst (λ (bytes : List ℕ). begun_by who.accepts who.whose bytes ≡ Some who.own) same (says_init who xid token small ours).begun

pub sent_own : (who : Identity) (at : SendAt) (nonce : List ℕ) (token : Option (List ℕ)) (m : Mounted) (sent : Sent) → at.xid < 2 ^ 32
    → ((t : List ℕ) → token ≡ Some t → IsOwnToken who t) → (sends.begun at nonce token m).0 ≡ Some sent
    → begun_by who.accepts who.whose sent.bytes ≡ Some who.own
sent_own who at nonce None m sent small ours is = absurd cc
sent_own who at nonce (Some token) m sent small ours is = init_own who at.xid token sent small (ours token refl) is

anew_by : (who : Identity) (at : SendAt) (kept : Option Beginning) (m : Mounted) (sent : Sent) → at.xid < 2 ^ 32
    → ((init : Beginning) → kept ≡ Some init → IsOwnToken who init.token) → (sends.begun_by at kept m).0 ≡ Some sent
    → begun_by who.accepts who.whose sent.bytes ≡ Some who.own
anew_by who at None m sent small ours is = absurd cc
anew_by who at (Some init) m sent small ours is = init_own who at.xid init.token sent small (ours init refl) is

pub anew_own : (who : Identity) (at : SendAt) (m : Mounted) (sent : Sent) → IsGood who m → at.xid < 2 ^ 32 → (sends.begun_anew at m).0 ≡ Some sent
    → begun_by who.accepts who.whose sent.bytes ≡ Some who.own
anew_own who at m sent good small is = anew_by who at (kept_in m.standing) m sent small good.kept is
