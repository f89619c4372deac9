-- A step in which a record of the source comes, as the source sees it.
use Rattle.std.proofs.Common.{◌≡◌, ◌≢◌, ◌∙◌, ◌⊎◌, inl, inr, ℕ, ◌≤◌, true, false, List, [], Option, Some, None, refl, sym, ap, subst, arith}
use Rattle.std.proofs.lemmas.List.{get_or-set_other}
use Rattle.std.specs.Prelude.{get_or, map, max, option_map}
use Rattle.caller_laws.specs.Good.{Identity, IsGood}
use Rattle.caller_laws.specs.Lawful.{IsStep, Obeys}
use Rattle.caller_laws.specs.Moves.{Move, Takes}
use Rattle.caller_laws.specs.OneStep.Besides.{AreBesides}
use Rattle.caller_laws.specs.View.{Above, Face, awaited_in, caller_of, what_asked, what_named, what_under}
use Rattle.dest_back.specs.Callbacks.{CallbackTable}
use Rattle.dest_core.specs.Stepping.{DestState, DestStep, IsReply, around, copier_in, doing_in, finished_by, reply_step, second_in, with_copier}
use Rattle.dest_laws.proofs.calls.Boots.{effect_stays}
use Rattle.dest_laws.proofs.calls.Replies.{Becomes, Effects, IsNothing, IsSomething, IsUnmatched, TakenOnce, calls_same, effect_ends, heard_so}
use Rattle.dest_laws.proofs.calls.TakenCalls.{taken_child}
use Rattle.dest_laws.proofs.calls.Wholes.{Moves, fall_whole, gives_whole, rest_whole, stays_ready, take_whole}
use Rattle.dest_laws.specs.Calls.Settled.{AreClients, IsSettledAs}
use Rattle.dest_laws.specs.Calls.Steps.{IsSeenPlain, above_of, mount_of}
use Rattle.dest_laws.specs.View.Steps.{part_by}
use Rattle.dest_laws.specs.View.View.{made_in, post_purpose}
use Rattle.dest_steps.specs.Copier.{Codes, last_xid}
use Rattle.dest_steps.specs.Replying.{effect_done, is_read}
use Rattle.dest_steps.specs.declared.copier.Copier.{Copier}
use Rattle.dest_steps.specs.declared.replying.Effect.{Effect}
use Rattle.dest_steps.specs.declared.replying.Effect.TheVariants as effects
use Rattle.dest_steps.specs.declared.replying.Heard.{Heard}
use Rattle.dest_tasks.specs.Posts.{post_at}
use Rattle.dest_work.specs.Work.{is_child}
use Rattle.dest_work.specs.declared.work.Work.{Work}
use Rattle.mount.specs.Falling.{fallen, given_up}
use Rattle.mount.specs.State.{Mounted, awaited_at, pending_at, pending_in}
use Rattle.mount.specs.Taking.{Means, taken_at}
use Rattle.mount.specs.declared.state.Awaiting.{Awaiting}
use Rattle.mount.specs.declared.state.Context as held
use Rattle.mount.specs.declared.state.Pending.{Pending}
use Rattle.mount.specs.declared.state.Pending.TheVariants.{Init, Under}
use Rattle.nfs_base.specs.declared.seal.End.{End}
use Rattle.nfs_base.specs.declared.seal.End.TheVariants.{Source}
use Rattle.nfs_base.specs.declared.seal.Seal.{Seal}
use Rattle.outbox.specs.declared.note.Dropped.{Dropped}
use Rattle.server_volume.specs.Choices.{Choice, choice_of}
use Rattle.session_client.specs.Pending.{Beginning}
use Rattle.session_client.specs.declared.asked.Asked.{Asked}
use Rattle.session_client.specs.declared.asked.Asked.TheVariants.{Compound, Create, Destroy}
use Rattle.wire_lines.specs.declared.letters.Speaker.{Speaker}
use Rattle.wire_machine.specs.History.{part_acts, sent_of}
use Rattle.wire_model.specs.CallerLaws.{LearnsRoot}
use Rattle.wire_model.specs.Spelling.{Context, SlotName}
use Rattle.wire_model.specs.Wire.{Acts, Awaited, Begins, Executed, Purpose}
use Rattle.wire_spelling.specs.Spelling.{spelling}
use Rattle.wire_xdr.specs.Cursor.{IsBytes}

-- ---- an INIT that is awaited

record IsInit (p : Pending) (xid : ℕ) : Type 0 where
  init : Beginning
  is : p ≡ Init init
  xid_is : init.xid ≡ xid

named_begins : (seal : Seal) (root : Context) (ops : List ℕ) (purpose : Purpose) (o : Option SlotName) → what_named seal root ops purpose o ≡ Begins → ⊥
named_begins seal root ops purpose None e = absurd cc
named_begins seal root ops purpose (Some name) e = absurd cc

asked_begins : (seal : Seal) (root : Context) (purpose : Purpose) (asked : Asked) → what_asked seal root purpose asked ≡ Begins → ⊥
asked_begins seal root purpose (Compound c) e = named_begins seal root _ purpose _ e
asked_begins seal root purpose (Create args) e = absurd cc
asked_begins seal root purpose Destroy e = absurd cc

under_begins : (o : Option Face) (seal : Seal) (purpose : Purpose) (asked : Asked) → what_under o seal purpose asked ≡ Begins → ⊥
under_begins None seal purpose asked e = absurd cc
under_begins (Some f) seal purpose asked e = asked_begins seal _ purpose asked e

awaits_init : (contexts : List held.Context) (purpose : Purpose) (p : Pending) (xid : ℕ) → awaited_in contexts purpose p ≡ record { xid = xid; what = Begins } → IsInit p xid
awaits_init contexts purpose (Init init) xid e = record { init = init; is = refl; xid_is = ap (λ (x : Awaited). x.xid) e }
awaits_init contexts purpose (Under context aim call) xid e = absurd (under_begins _ _ _ _ (ap (λ (x : Awaited). x.what) e))

record AwaitsInit (o : Option Pending) (xid : ℕ) : Type 0 where
  init : Beginning
  there : o ≡ Some (Init init)
  xid_is : init.xid ≡ xid

init_in : (contexts : List held.Context) (purpose : Purpose) (o : Option Pending) (xid : ℕ)
    → option_map (awaited_in contexts purpose) o ≡ Some (record { xid = xid; what = Begins }) → AwaitsInit o xid
init_in contexts purpose None xid e = absurd cc
init_in contexts purpose (Some p) xid e =
    let i = awaits_init contexts purpose p xid cc in
    record { init = i.init; there = ap (λ (q : Pending). Some q) i.is; xid_is = i.xid_is }

-- ---- a child that comes too late teaches no root

pub late_teaches : (who : Identity) (means : Means) → ((a b : Above) (m : Mounted) (move : Move) → IsStep who means a b m move → Obeys who means a b m move)
    → (a : Above) (m : Mounted) (place : ℕ) (message : List ℕ) (shown : Acts) → IsGood who m → IsBytes message → is_child (taken_at means place message m).0.told ≡ true
    → shown.took ≡ Some message → shown.accepted ≡ (taken_at means place message m).0.accepted
    → (root : Context) → LearnsRoot (spelling who.accepts who.whose) m.server (caller_of a m) shown root → ⊥
late_teaches who means obeys a m place message shown good bytes child took accepted root learnt =
    let n = (taken_at means place message m).1 in
    let laws = obeys a a m (Takes place message)
    (record { good = good; goes_on = record { boot = refl; calls = omega arith; purpose = λ q x there. refl }; may = bytes }) in
    let q = learnt.takes.place in
    let it = init_in m.contexts (a.purpose q) (pending_at m q) _ learnt.takes.awaited in
    let leaves = taken_child means place message m child in
    let apart : q ≢ place = λ same. leaves.no_init it.init (sym (ap (pending_at m) same) ∙ it.there) in
    let still : pending_at n q ≡ Some (Init it.init) =
    ap (λ (ps : List (Option Awaiting)). pending_in (get_or ps q None)) leaves.places
    ∙ ap pending_in (get_or-set_other m.places place q None None apart)
    ∙ it.there in
    laws.begin root
    (record {
      seal = learnt.seal;
      reply = learnt.reply;
      takes = record {
        place = q;
        took = sym took ∙ learnt.takes.took;
        is_reply = learnt.takes.is_reply;
        accepted = sym accepted ∙ learnt.takes.accepted;
        awaited = learnt.takes.awaited;
      };
      own = learnt.own;
      root_is = learnt.root_is;
    })
    q it.init.xid (ap (option_map (awaited_in n.contexts (a.purpose q))) still)

-- ---- the step

module _ {M : Type 0} (who : Identity) (means : Means) (obeys : (a b : Above) (m : Mounted) (move : Move) → IsStep who means a b m move → Obeys who means a b m move)
    (choice : Choice) (place now : ℕ) (message : List ℕ) (comes : IsBytes message) (s : DestState M) (settled : IsSettledAs who (copier_in s)) (speaker : Speaker)
    (executed : Option Executed) where
  abbrev Start : Copier → DestState M
  Start x = second_in now (with_copier x s)

  abbrev T : Effect → Option Seal → Copier → DestStep M
  T effect accepted x = finished_by (effect_done choice place effect (doing_in (Start x))) accepted false (Start x)

  abbrev Shown : Effect → Option Seal → Copier → Acts
  Shown effect accepted x = part_acts (part_by (Some message) speaker (T effect accepted x)) executed

  abbrev Seen : Effect → Option Seal → Copier → Type 0
  Seen effect accepted x = IsSeenPlain who means s (T effect accepted x).host (Shown effect accepted x)

  -- the copier, but for its copies, is as it was
  module _ (x : Copier) (works : x.work ≡ (copier_in s).work) (backs : x.back ≡ (copier_in s).back) where
    same_moves : (n : Mounted) (why : Dropped) (accepted : Option Seal) → made_in s ≤ made_in (T (effects.Drops why) accepted x).host
        → Moves n (above_of s) (above_of (T (effects.Drops why) accepted x).host)
    same_moves n why accepted later = record {
      boot = refl;
      ready = stays_ready (made_in s) (made_in (T (effects.Drops why) accepted x).host) later;
      purpose = λ q a there. ap (λ (w : Work). post_purpose (post_at w.workers q)) works;
    }

    same_calls : last_xid x.work.mount x.back ≡ last_xid (copier_in s).work.mount (copier_in s).back
    same_calls = ap (λ (w : Work). last_xid w.mount x.back) works ∙ ap (last_xid (copier_in s).work.mount) backs

    nothing_seen : (why : Dropped) (accepted : Option Seal) → accepted ≡ None → made_in s ≤ made_in (T (effects.Drops why) accepted x).host
        → Seen (effects.Drops why) accepted x
    nothing_seen why accepted none later =
        let step = rest_whole who means (above_of s) (above_of (T (effects.Drops why) accepted x).host) (mount_of s) x.work.mount (Shown (effects.Drops why) accepted x)
        (ap (λ (w : Work). w.mount) works) (same_moves (mount_of s) why accepted later) (inr none) [] refl (omega (arith, same_calls)) in
        record { seen = record { step = step.step; fits = λ sends. step.fits; clients = subst AreClients (sym backs) settled.clients }; sends = step.sends }

    unmatched_seen : (why : Dropped) (accepted : Option Seal) → mount_of s ≡ (taken_at means place message (mount_of s)).1
        → accepted ≡ (taken_at means place message (mount_of s)).0.accepted → made_in s ≤ made_in (T (effects.Drops why) accepted x).host
        → Seen (effects.Drops why) accepted x
    unmatched_seen why accepted stays accepted_is later =
        let step = take_whole who means (above_of s) (above_of (T (effects.Drops why) accepted x).host) (mount_of s) x.work.mount (Shown (effects.Drops why) accepted x) place message comes
        (ap (λ (w : Work). w.mount) works ∙ stays) (same_moves (taken_at means place message (mount_of s)).1 why accepted later) refl accepted_is [] refl
        (omega (arith, same_calls)) in
        record { seen = record { step = step.step; fits = λ sends. step.fits; clients = subst AreClients (sym backs) settled.clients }; sends = step.sends }

    something_seen : (effect : Effect) (accepted : Option Seal) (n : Mounted) → Becomes means place message (mount_of s) n
        → Effects who (mount_of s) (copier_in s).back place n effect → accepted ≡ (taken_at means place message (mount_of s)).0.accepted
        → made_in s ≤ made_in (T effect accepted x).host → Seen effect accepted x
    something_seen effect accepted n becomes does accepted_is later = by n refl becomes
      where
        moves : (k : Mounted) → n ≡ k → Moves k (above_of s) (above_of (T effect accepted x).host)
        moves k same = record {
          boot = sym (effect_stays choice place effect (doing_in (Start x)));
          ready = stays_ready (made_in s) (made_in (T effect accepted x).host) later;
          purpose = λ q a there.
              (effect_ends who (mount_of s) place choice (doing_in (Start x)) (subst AreClients (sym backs) settled.clients) n effect
              (subst (λ (b : CallbackTable). Effects who (mount_of s) b place n effect) (sym backs) does)).posts q a (ap (λ (m : Mounted). awaited_at m q) same ∙ there)
              ∙ ap (λ (w : Work). post_purpose (post_at w.workers q)) works;
        }

        counts : (effect_done choice place effect (doing_in (Start x))).doing.copier.work.mount.calls ≡ (mount_of s).calls
            → AreBesides (spelling who.accepts who.whose) (mount_of s).server (last_xid (mount_of s) (copier_in s).back)
            (map sent_of (effect_done choice place effect (doing_in (Start x))).sent)
            (last_xid (effect_done choice place effect (doing_in (Start x))).doing.copier.work.mount (effect_done choice place effect (doing_in (Start x))).doing.copier.back)
        counts same =
            let done = effect_done choice place effect (doing_in (Start x)) in
            let ended = effect_ends who (mount_of s) place choice (doing_in (Start x)) (subst AreClients (sym backs) settled.clients) n effect
            (subst (λ (b : CallbackTable). Effects who (mount_of s) b place n effect) (sym backs) does) in
            subst (λ (e : End). AreBesides (spelling who.accepts who.whose) e (last_xid (mount_of s) (copier_in s).back) (map sent_of done.sent)
            (last_xid done.doing.copier.work.mount done.doing.copier.back)) (sym settled.server)
            (subst (λ (k : ℕ). AreBesides (spelling who.accepts who.whose) Source (last_xid (mount_of s) (copier_in s).back) (map sent_of done.sent) k)
            (ap (λ (k : ℕ). max k done.doing.copier.back.calls) (sym same))
            (subst (λ (b : CallbackTable). AreBesides (spelling who.accepts who.whose) Source (last_xid (mount_of s) b) (map sent_of done.sent)
            (last_xid (mount_of s) done.doing.copier.back)) backs ended.tells.are))

        by : (k : Mounted) → n ≡ k → Becomes means place message (mount_of s) k → Seen effect accepted x
        by k same (inl is) =
            let done = effect_done choice place effect (doing_in (Start x)) in
            let ended = effect_ends who (mount_of s) place choice (doing_in (Start x)) (subst AreClients (sym backs) settled.clients) n effect
            (subst (λ (b : CallbackTable). Effects who (mount_of s) b place n effect) (sym backs) does) in
            let mount_is = ended.mount ∙ same ∙ is in
            let step = take_whole who means (above_of s) (above_of (T effect accepted x).host) (mount_of s) done.doing.copier.work.mount (Shown effect accepted x) place message comes
            mount_is (moves (taken_at means place message (mount_of s)).1 (same ∙ is)) refl accepted_is (map sent_of done.sent) refl
            (counts (ap (λ (m : Mounted). m.calls) (ended.mount ∙ same) ∙ calls_same means place message (mount_of s) k (inl is))) in
            record { seen = record { step = step.step; fits = λ sends. step.fits; clients = ended.tells.clients }; sends = step.sends }
        by k same (inr (inl fell)) =
            let is = fell.0 in
            let done = effect_done choice place effect (doing_in (Start x)) in
            let ended = effect_ends who (mount_of s) place choice (doing_in (Start x)) (subst AreClients (sym backs) settled.clients) n effect
            (subst (λ (b : CallbackTable). Effects who (mount_of s) b place n effect) (sym backs) does) in
            let mount_is = ended.mount ∙ same ∙ is in
            let step = fall_whole who means (above_of s) (above_of (T effect accepted x).host) (mount_of s) done.doing.copier.work.mount (Shown effect accepted x) place message comes
            mount_is (moves (fallen (taken_at means place message (mount_of s)).1) (same ∙ is)) fell.1 refl accepted_is (map sent_of done.sent) refl
            (counts (ap (λ (m : Mounted). m.calls) (ended.mount ∙ same) ∙ calls_same means place message (mount_of s) k (inr (inl fell)))) in
            record { seen = record { step = step.step; fits = λ sends. step.fits; clients = ended.tells.clients }; sends = step.sends }
        by k same (inr (inr late)) =
            let is = late.0 in
            let done = effect_done choice place effect (doing_in (Start x)) in
            let ended = effect_ends who (mount_of s) place choice (doing_in (Start x)) (subst AreClients (sym backs) settled.clients) n effect
            (subst (λ (b : CallbackTable). Effects who (mount_of s) b place n effect) (sym backs) does) in
            let mount_is = ended.mount ∙ same ∙ is in
            let step = gives_whole who means (above_of s) (above_of (T effect accepted x).host) (mount_of s) done.doing.copier.work.mount (Shown effect accepted x) place
            mount_is (moves (given_up place (mount_of s)) (same ∙ is))
            (late_teaches who means obeys (above_of s) (mount_of s) place message (Shown effect accepted x) settled.good comes late.1 refl accepted_is)
            (map sent_of done.sent) refl
            (counts (ap (λ (m : Mounted). m.calls) (ended.mount ∙ same) ∙ calls_same means place message (mount_of s) k (inr (inr late)))) in
            record { seen = record { step = step.step; fits = λ sends. step.fits; clients = ended.tells.clients }; sends = step.sends }

  pub heard_seen : TakenOnce means → (heard : Heard) (x : Copier) → (h : Heard) → h ≡ heard
      → IsNothing (copier_in s) heard x ⊎ (IsUnmatched means place message (copier_in s) heard x ⊎ IsSomething who means place message (copier_in s) heard x)
      → made_in s ≤ made_in (T heard.effect heard.accepted x).host → Seen heard.effect heard.accepted x
  heard_seen laws heard x h same (inl nothing) later =
      subst (λ (e : Effect). Seen e heard.accepted x) (sym nothing.effect)
      (nothing_seen x nothing.work nothing.back_is nothing.why heard.accepted nothing.accepted
      (subst (λ (e : Effect). made_in s ≤ made_in (T e heard.accepted x).host) nothing.effect later))
  heard_seen laws heard x h same (inr (inl unmatched)) later =
      subst (λ (e : Effect). Seen e heard.accepted x) (sym unmatched.effect)
      (unmatched_seen x unmatched.work unmatched.back_is unmatched.why heard.accepted unmatched.mount unmatched.accepted
      (subst (λ (e : Effect). made_in s ≤ made_in (T e heard.accepted x).host) unmatched.effect later))
  heard_seen laws heard x h same (inr (inr something)) later =
      something_seen x something.work something.back_is heard.effect heard.accepted something.mount something.becomes something.effect something.accepted later

pub reply_seen : {M : Type 0} (who : Identity) (means : Means) → ((a b : Above) (m : Mounted) (move : Move) → IsStep who means a b m move → Obeys who means a b m move)
    → TakenOnce means → (place now : ℕ) (message : List ℕ) → IsBytes message → (s : DestState M) (t : DestStep M) (speaker : Speaker) (executed : Option Executed)
    → IsSettledAs who (copier_in s) → made_in s ≤ made_in t.host
    → IsReply (record { mic = means.mic; derived = means.derived }) means.finished place message now s t
    → IsSeenPlain who means s t.host (part_acts (part_by (Some message) speaker t) executed)
reply_seen {M} who means obeys laws place now message comes s t speaker executed settled later reply =
    let choice = choice_of t.out.used in
    let is : t ≡ reply_step choice place now reply.heard (with_copier reply.copier s) = reply.is choice (λ n below. refl) in
    let codes : Codes = record { mic = means.mic; derived = means.derived } in
    subst (λ (u : DestStep M). IsSeenPlain who means s u.host (part_acts (part_by (Some message) speaker u) executed)) (sym is)
    (heard_seen who means obeys choice place now message comes s settled speaker executed laws reply.heard reply.copier reply.heard refl
    (heard_so who means laws codes (around (max s.second now) s) place message (copier_in s) settled.clients (is_read message) reply.heard reply.copier reply.is_heard)
    (subst (λ (u : DestStep M). made_in s ≤ made_in u.host) is later))
