-- Each step of a lawful system obeys the laws of the promise.
use Rattle.std.proofs.Common.{◌≡◌, ◌⊎◌, inl, inr, ⊎_elim, ℕ, zero, suc, ◌+◌, ◌-◌, ◌<◌, ◌≤◌, true, false, ◌&&◌, leb, ltb, not, nat_lt, Option, None, Some, unwrap_or, List, [], ◌∷◌, ◌++◌, length, refl, sym, ◌∙◌, ap, subst, arith}
use Rattle.std.proofs.lemmas.Bool.{both_ways, false_from_ne_true, and_parts, and_from, cases_lt, cases_eq, false≢true, not_from_false, not_from_true, leb-true, ltb-true, lt-ltb}
use Rattle.copy_model.specs.Volume.{Volume, file_at, byte_at}
use Rattle.copy_model.specs.Job.{Plan, Entry, Sized, Landed, Stopped, Committed, Reported, size_of, AllowsCommit, Allows}
use Rattle.copy_model.specs.Marks.{len_of, has_byte, covers, is_commit, is_committed}
use Rattle.copy_model.specs.Moment.{Did, Copy, seen_source, seen_dest}
use Rattle.copy_model.specs.Moment as did
use Rattle.copy_model.specs.Promise.{InRange, HasExtent, WritesTo, LandsOf, LandsAt, IsCrash, Reaches, Shows, IsAlike}
use Rattle.copy_model.specs.Laws.{LandingLaws, SettlingLaws, StepLaws, StartLaws, IsLawfulRun}
use Rattle.copy_model.specs.Effect.{Effect, Rests, Writes, Commits, WriteFails, CommitFails, Crashes, after, IsAllowed, IsReady, IsCrashOf, WritesAt, IsFirm, IsVolumeRun}
use Rattle.nfs_base.specs.declared.seal.End.TheVariants.{Source, Dest}
use Rattle.wire_model.specs.Spelling.{Spelling}
use Rattle.wire_model.specs.Meaning.{Meaning}
use Rattle.wire_model.specs.Copies.{Deed, Plain, Lands, LandFails, may_land, copy_of, did_by, did_of, effect_of, bare_effect}
use Rattle.wire_model.specs.System.{System, wire_of, plan_at, dest_effect, history, progress}
use Rattle.wire_model.specs.CopyLaws.{IsDue, Enters, IsLanding, IsSizedBy}
use Rattle.wire_model.specs.Lawful.{IsLawfulSystem}
use Rattle.wire_model.proofs.Below.{Below}
use Rattle.wire_model.proofs.Answered.{calls_simple}
use Rattle.wire_model.proofs.Jobs.{plan_stays, sound_at, may_parts, was_live, incomplete, committed_size, moment_laws, copy_laws, commits}
use Rattle.wire_model.proofs.Fetched.{at_hand_read, was_asked}

-- what a landing's step says, of each of its bytes or not
lands_now : (d : Did) (j : ℕ) (plan : Plan) (place : ℕ) → LandsAt d j plan place ⊎ (LandsAt d j plan place → ⊥)
lands_now did.Rested j plan place = inr (λ l. l)
lands_now (did.Wrote file off len) j plan place = inr (λ l. l)
lands_now did.Crashed j plan place = inr (λ l. l)
lands_now (did.Landed c off len) j plan place =
    ⊎_elim
    (λ (same : c ≡ j). ⊎_elim
    (λ (before : place < plan.dst_off + off). inr (λ l. absurd (let from = l.1 in omega arith)))
    (λ (from : plan.dst_off + off ≤ place). ⊎_elim
    (λ (below : place < plan.dst_off + off + len). inl (same, from, below))
    (λ (behind : plan.dst_off + off + len ≤ place). inr (λ l. absurd (let low = l.2 in omega arith)))
    (cases_lt place (plan.dst_off + off + len)))
    (cases_lt place (plan.dst_off + off)))
    (λ (apart : c ≡ j → ⊥). inr (λ l. apart l.0))
    (cases_eq c j)

writes_plain : (e : Effect) (file place : ℕ) → WritesAt e file place → WritesTo (did_by e) file place
writes_plain Rests file place w = w
writes_plain (Writes at off bytes) file place w = w
writes_plain (Commits at) file place w = w
writes_plain WriteFails file place w = w
writes_plain (CommitFails at) file place w = w
writes_plain (Crashes under kept) file place w = w

never_lands : (e : Effect) (j : ℕ) → LandsOf (did_by e) j → ⊥
never_lands Rests j l = l
never_lands (Writes at off bytes) j l = l
never_lands (Commits at) j l = l
never_lands WriteFails j l = l
never_lands (CommitFails at) j l = l
never_lands (Crashes under kept) j l = l

crash_plain : (e : Effect) → IsCrash (did_by e) → IsCrashOf e
crash_plain Rests c = c
crash_plain (Writes at off bytes) c = c
crash_plain (Commits at) c = c
crash_plain WriteFails c = c
crash_plain (CommitFails at) c = c
crash_plain (Crashes under kept) c = c

crash_seen : (e : Effect) → IsCrashOf e → IsCrash (did_by e)
crash_seen Rests c = c
crash_seen (Writes at off bytes) c = c
crash_seen (Commits at) c = c
crash_seen WriteFails c = c
crash_seen (CommitFails at) c = c
crash_seen (Crashes under kept) c = c

lands_of : (d : Did) (j : ℕ) (plan : Plan) (place : ℕ) → LandsAt d j plan place → LandsOf d j
lands_of did.Rested j plan place l = l
lands_of (did.Wrote file off len) j plan place l = l
lands_of (did.Landed c off len) j plan place l = l.0
lands_of did.Crashed j plan place l = l

-- the deed of a step that lands a chunk of a copy
landed_deed : (d : Deed) (j : ℕ) → LandsOf (did_of d) j → (off : ℕ) × (bytes : List ℕ) × (d ≡ Lands j off bytes)
landed_deed (Plain e) j l = absurd (never_lands e j l)
landed_deed (Lands c off bytes) j l = (off, bytes, ap (λ n. Lands n off bytes) l)
landed_deed LandFails j l = absurd l

crash_deed : (plan : ℕ → Plan) (d : Deed) → IsCrash (did_of d) → IsCrashOf (effect_of plan d)
crash_deed plan (Plain e) c = crash_plain e c
crash_deed plan (Lands j off bytes) c = absurd c
crash_deed plan LandFails c = absurd c

seen_crash : (plan : ℕ → Plan) (d : Deed) → IsCrashOf (effect_of plan d) → IsCrash (did_of d)
seen_crash plan (Plain e) c = crash_seen e c
seen_crash plan (Lands j off bytes) c = absurd c
seen_crash plan LandFails c = absurd c

module _ (spell : Spelling) (meaning : Meaning) (s : System) (lawful : IsLawfulSystem spell meaning s) (below : Below) where
  pub source_run : IsVolumeRun s.source s.effect
  source_run =
      record {
        files = lawful.source_files;
        capacity = lawful.source_capacity;
        start = lawful.source_start;
        allowed = λ k. (lawful.source k (calls_simple spell (wire_of s Source) lawful.source_wire k)).allowed;
        goes_on = λ k. (lawful.source k (calls_simple spell (wire_of s Source) lawful.source_wire k)).goes_on;
      }

  allowed : (k : ℕ) → IsAllowed (s.dest k) (dest_effect s k)
  allowed k = (lawful.dest k (calls_simple spell (wire_of s Dest) lawful.dest_wire k)).allowed

  goes_on : (k : ℕ) → s.dest (suc k) ≡ after (s.dest k) (dest_effect s k)
  goes_on k = (lawful.dest k (calls_simple spell (wire_of s Dest) lawful.dest_wire k)).goes_on

  firm_dest : (k : ℕ) → IsFirm (s.dest k)
  firm_dest zero = subst IsFirm (sym lawful.dest_start) (below.firm_start lawful.dest_files lawful.dest_capacity)
  firm_dest (suc k) = subst IsFirm (sym (goes_on k)) (below.firm (s.dest k) (s.dest k) (dest_effect s k) (firm_dest k) refl (allowed k))

  same_files : (k : ℕ) → length (s.dest k).files ≡ length (s.bare k).files
  same_files zero = sym (ap (λ (v : Volume). length v.files) lawful.bare_start)
  same_files (suc k) =
      ap (λ (v : Volume). length v.files) (goes_on k) ∙ below.files (s.dest k) (dest_effect s k) ∙ same_files k
      ∙ sym (ap (λ (v : Volume). length v.files) (lawful.bare k) ∙ below.files (s.bare k) (bare_effect (s.deed k)))

  firm_deed : (k : ℕ) → IsFirm (s.bare k) → (d : Deed) → s.deed k ≡ d → IsFirm (after (s.bare k) (bare_effect d))
  firm_deed k firm (Plain e) is =
      below.firm (s.dest k) (s.bare k) e firm (same_files k) (subst (λ (d : Deed). IsAllowed (s.dest k) (effect_of (plan_at s k) d)) is (allowed k))
  firm_deed k firm (Lands j off bytes) is = firm
  firm_deed k firm LandFails is = firm

  firm_bare : (k : ℕ) → IsFirm (s.bare k)
  firm_bare zero = subst IsFirm (sym lawful.bare_start) (firm_dest 0)
  firm_bare (suc k) = subst IsFirm (sym (lawful.bare k)) (firm_deed k (firm_bare k) (s.deed k) refl)

  -- a byte that the step doesn't reach isn't written by its effect
  unwritten : (k file place : ℕ) → (Reaches (history s (suc k)) file place → ⊥) → WritesAt (dest_effect s k) file place → ⊥
  unwritten k file place unreached = by_deed (s.deed k) refl
    where
      by_deed : (d : Deed) → s.deed k ≡ d → WritesAt (effect_of (plan_at s k) d) file place → ⊥
      by_deed (Plain e) is w = unreached (inl (subst (λ (d : Deed). WritesTo (did_of d) file place) (sym is) (writes_plain e file place w)))
      by_deed (Lands j off bytes) is w =
          let law = (lawful.copies k).lands j off bytes is in
          let plan = (lawful.copies k).plan j law.there in
          unreached (inr (
            j,
            subst (λ (d : Deed). LandsAt (did_of d) j (plan_at s (suc k) j) place) (sym is) (subst (λ (p : Plan). LandsAt (did.Landed j off (length bytes)) j p place) (sym plan) (refl, w.1, w.2)),
            ap (λ (p : Plan). p.dst_file) plan ∙ w.0,
          ))
      by_deed LandFails is w = w

  no_crash : (k : ℕ) → (IsCrash (did_of (s.deed k)) → ⊥) → IsCrashOf (dest_effect s k) → ⊥
  no_crash k never crash = never (seen_crash (plan_at s k) (s.deed k) crash)

  quiet : (k file place : ℕ) → (Reaches (history s (suc k)) file place → ⊥) → (IsCrash (did_of (s.deed k)) → ⊥) → (s.dest (suc k)).broken ≡ false
      → ((s.dest k).broken ≡ false) × (byte_at (file_at (s.dest (suc k)) file).now place ≡ byte_at (file_at (s.dest k) file).now place)
  quiet k file place unreached never =
      subst
      (λ (v : Volume). v.broken ≡ false → ((s.dest k).broken ≡ false) × (byte_at (file_at v file).now place ≡ byte_at (file_at (s.dest k) file).now place))
      (sym (goes_on k))
      (below.quiet (s.dest k) (dest_effect s k) file place (allowed k) (unwritten k file place unreached) (no_crash k never))

  shown : (k file place x : ℕ) → (Reaches (history s (suc k)) file place → ⊥) → Shows (seen_dest (s.dest (suc k))) file place x → Shows (seen_dest (s.dest k)) file place x
  shown k file place x unreached =
      subst
      (λ (v : Volume). Shows (seen_dest v) file place x → Shows (seen_dest (s.dest k)) file place x)
      (sym (goes_on k))
      (below.shown (s.dest k) (dest_effect s k) file place x (allowed k) (unwritten k file place unreached))

  bare : (k file place : ℕ) → ((j : ℕ) → LandsAt (did_of (s.deed k)) j (plan_at s (suc k) j) place → (plan_at s (suc k) j).dst_file ≡ file → ⊥)
      → IsAlike (seen_dest (s.dest k)) (seen_dest (s.bare k)) file place → IsAlike (seen_dest (s.dest (suc k))) (seen_dest (s.bare (suc k))) file place
  bare k file place elsewhere alike =
      subst
      (λ (v : Volume). IsAlike (seen_dest v) (seen_dest (s.bare (suc k))) file place)
      (sym (goes_on k))
      (subst
      (λ (v : Volume). IsAlike (seen_dest (after (s.dest k) (dest_effect s k))) (seen_dest v) file place)
      (sym (lawful.bare k))
      (by_deed (s.deed k) refl))
    where
      may : (d : Deed) → s.deed k ≡ d → IsAllowed (s.dest k) (effect_of (plan_at s k) d)
      may d is = subst (λ (x : Deed). IsAllowed (s.dest k) (effect_of (plan_at s k) x)) is (allowed k)

      by_deed : (d : Deed) → s.deed k ≡ d
          → IsAlike (seen_dest (after (s.dest k) (effect_of (plan_at s k) d))) (seen_dest (after (s.bare k) (bare_effect d))) file place
      by_deed (Plain e) is = below.both (s.dest k) (s.bare k) e file place (firm_dest k) (firm_bare k) (same_files k) (may (Plain e) is) alike
      by_deed (Lands j off bytes) is =
          let law = (lawful.copies k).lands j off bytes is in
          let plan = (lawful.copies k).plan j law.there in
          below.alone (s.dest k) (s.bare k) (effect_of (plan_at s k) (Lands j off bytes)) file place (may (Lands j off bytes) is) tt
          (λ w. elsewhere j
          (subst (λ (d : Deed). LandsAt (did_of d) j (plan_at s (suc k) j) place) (sym is) (subst (λ (p : Plan). LandsAt (did.Landed j off (length bytes)) j p place) (sym plan) (refl, w.1, w.2)))
          (ap (λ (p : Plan). p.dst_file) plan ∙ w.0))
          alike
      by_deed LandFails is = below.alone (s.dest k) (s.bare k) WriteFails file place (may LandFails is) tt (λ w. w) alike

  -- the step at which a copy was accepted
  accepted_when : (k j : ℕ) → j < s.made k → (i : ℕ) × (i < k) × (s.made i ≤ j) × (j < s.made (suc i))
  accepted_when zero j there = absurd (let none = lawful.copies_start.none_made in omega arith)
  accepted_when (suc k) j there =
      ⊎_elim
      (λ (early : j < s.made k). let found = accepted_when k j early in (found.0, let before = found.1 in omega arith, found.2, found.3))
      (λ (now : s.made k ≤ j). (k, omega arith, now, there))
      (cases_lt j (s.made k))

  -- a byte that lands is in the range of no copy accepted later
  landing_apart : (k j off : ℕ) (bytes : List ℕ) → IsLanding spell meaning s k j off bytes → (place : ℕ)
      → InRange (copy_of (s.job (suc k) j)) place → (l : ℕ) → j < l → l < s.made (suc k)
      → (plan_at s (suc k) l).dst_file ≡ (plan_at s (suc k) j).dst_file → InRange (copy_of (s.job (suc k) l)) place → ⊥
  landing_apart k j off bytes law place within l later there same within' =
      let none_new = law.none_new in
      let found = accepted_when k l (omega arith) in
      let i = found.0 in
      let before = found.1 in
      let j_there : j < s.made (suc i) = (let high = found.3 in omega arith) in
      let live = was_live spell meaning s lawful below j (suc i) k (omega arith) j_there law.live in
      let plan_j = plan_stays spell meaning s lawful below j (suc i) (suc k) (omega arith) j_there in
      let plan_l = plan_stays spell meaning s lawful below l (suc i) (suc k) (omega arith) found.3 in
      let file = sym (ap (λ (p : Plan). p.dst_file) plan_l) ∙ same ∙ ap (λ (p : Plan). p.dst_file) plan_j in
      let apart = (lawful.copies i).apart j l later found.2 found.3 live file in
      let off_j = ap (λ (p : Plan). p.dst_off) plan_j in
      let off_l = ap (λ (p : Plan). p.dst_off) plan_l in
      let there_j = law.there in
      let reach_j = (lawful.copies k).reach j (omega arith) in
      let reach_l = (lawful.copies k).reach l there in
      let low : (plan_at s (suc k) j).dst_off ≤ place = within.0 in
      let high : place < (plan_at s (suc k) j).dst_off + len_of (s.job (suc k) j).entries = within.1 in
      let low' : (plan_at s (suc k) l).dst_off ≤ place = within'.0 in
      let high' : place < (plan_at s (suc k) l).dst_off + len_of (s.job (suc k) l).entries = within'.1 in
      apart place (omega arith) (omega arith) (omega arith) (omega arith)

  landing_laws : (k j off : ℕ) (bytes : List ℕ) (place : ℕ) → s.deed k ≡ Lands j off bytes
      → LandsAt (did.Landed j off (length bytes)) j (plan_at s (suc k) j) place → LandingLaws (history s) k j place
  landing_laws k j off bytes place is lands =
      let law = (lawful.copies k).lands j off bytes is in
      let plan = (lawful.copies k).plan j law.there in
      let dst_off = ap (λ (p : Plan). p.dst_off) plan in
      let grows : len_of (s.job k j).entries ≤ len_of (s.job (suc k) j).entries = (copy_laws spell meaning s lawful below k j law.there).grows in
      let inside = law.within in
      let from : (plan_at s (suc k) j).dst_off + off ≤ place = lands.1 in
      let low : place < (plan_at s (suc k) j).dst_off + off + length bytes = lands.2 in
      let within : InRange (copy_of (s.job (suc k) j)) place = (omega arith, omega arith) in
      let r = at_hand_read spell meaning s lawful below k (record { copy = j; off = off; bytes = bytes }) law.at_hand in
      let early = r.before in
      let src = plan_stays spell meaning s lawful below j r.moment (suc k) (omega arith) r.accepted in
      let file = (plan_at s k j).dst_file in
      let base = (plan_at s k j).dst_off + off in
      let effect : dest_effect s k ≡ Writes file base bytes = ap (effect_of (plan_at s k)) is in
      let writes : WritesAt (dest_effect s k) file place = subst (λ (e : Effect). WritesAt e file place) (sym effect) (refl, omega arith, omega arith) in
      let now = below.written (s.dest k) (dest_effect s k) file base bytes place effect (allowed k) writes in
      let here : byte_at (file_at (s.dest (suc k)) file).now place ≡ byte_at bytes (place - base) = subst (λ (v : Volume). byte_at (file_at v file).now place ≡ byte_at bytes (place - base)) (sym (goes_on k)) now in
      let inside_piece : place - base < length bytes = omega arith in
      let told = r.byte (place - base) inside_piece in
      let src_off : (plan_at s (suc k) j).src_off ≡ (plan_at s r.moment j).src_off = ap (λ (p : Plan). p.src_off) src in
      let at : (plan_at s r.moment j).src_off + off + (place - base) ≡ (plan_at s (suc k) j).src_off + (place - (plan_at s (suc k) j).dst_off) = omega arith in
      let source_now : byte_at (file_at (s.source r.moment) (plan_at s r.moment j).src_file).now ((plan_at s r.moment j).src_off + off + (place - base))
      ≡ byte_at (file_at (s.source r.moment) (plan_at s (suc k) j).src_file).now ((plan_at s (suc k) j).src_off + (place - (plan_at s (suc k) j).dst_off)) =
      ap (λ f. byte_at (file_at (s.source r.moment) f).now ((plan_at s r.moment j).src_off + off + (place - base))) (sym (ap (λ (p : Plan). p.src_file) src))
      ∙ ap (λ n. byte_at (file_at (s.source r.moment) (plan_at s (suc k) j).src_file).now n) at in
      record {
        within = within;
        read = r.moment;
        in_time = omega arith;
        accepted = r.accepted;
        readable = r.readable;
        byte = ap (λ f. byte_at (file_at (s.dest (suc k)) f).now place) (ap (λ (p : Plan). p.dst_file) plan) ∙ here ∙ told ∙ source_now;
        apart = λ l later there same within'. landing_apart k j off bytes law place within l later there same within';
      }

  settling_laws : (k j : ℕ) → is_committed (s.job k j).entries ≡ false → is_committed (s.job (suc k) j).entries ≡ true
      → SettlingLaws (history s) (progress s) k j
  settling_laws k j before now =
      ⊎_elim
      (λ (there : j < s.made k).
      let found = commits spell meaning s lawful below k j there before now in
      let e = found.0 in
      let due = found.2.0 in
      let deed = found.2.1 in
      let plan = (lawful.copies k).plan j there in
      let file = (plan_at s k j).dst_file in
      let effect : dest_effect s k ≡ Commits file = ap (effect_of (plan_at s k)) deed in
      let ready : IsReady (s.dest k) file = subst (IsAllowed (s.dest k)) effect (allowed k) in
      let len : len_of (s.job (suc k) j).entries ≡ len_of (s.job k j).entries = ap (λ (es : List Entry). len_of es) e.pushed ∙ commit_len (s.job k j).entries e.entry found.1 in
      record {
        intact = and_from (nat_lt j (s.made k)) (not (s.job k j).lost) (lt-ltb j (s.made k) there) (not_from_false (s.job k j).lost (may_parts (s.job k j) due).2);
        readable = ready.0;
        landed = λ q under. below.landed (plan_at s k j).consecutive (s.job k j).entries q (sound_at spell meaning s lawful below k j) (commit_allowed k j e.entry found.1 e.allowed) (omega arith);
        shows = λ q x under.
            subst
            (λ (p : Plan). Shows (seen_dest (s.dest (suc k))) p.dst_file (p.dst_off + q) x → x ≡ byte_at (file_at (s.dest k) p.dst_file).now (p.dst_off + q))
            (sym plan)
            (subst
            (λ (v : Volume). Shows (seen_dest v) file ((plan_at s k j).dst_off + q) x → x ≡ byte_at (file_at (s.dest k) file).now ((plan_at s k j).dst_off + q))
            (sym (goes_on k ∙ ap (after (s.dest k)) effect))
            (below.settles (s.dest k) file ((plan_at s k j).dst_off + q) x (firm_dest k) ready));
      })
      (λ (new : s.made k ≤ j).
      absurd (false≢true (sym (ap (λ (es : List Entry). is_committed es) ((lawful.copies k).fresh j new).entries) ∙ now)))
      (cases_lt j (s.made k))
    where
      commit_len : (es : List Entry) (e : Entry) → is_commit e ≡ true → len_of (es ++ e ∷ []) ≡ len_of es
      commit_len es (Sized n) commit = absurd (false≢true commit)
      commit_len es (Landed off n) commit = absurd (false≢true commit)
      commit_len es Stopped commit = absurd (false≢true commit)
      commit_len es Committed commit = below.len es Committed refl
      commit_len es Reported commit = absurd (false≢true commit)

      commit_allowed : (k j : ℕ) (e : Entry) → is_commit e ≡ true → Allows (plan_at s k j).consecutive (s.job k j).entries e → AllowsCommit (s.job k j).entries
      commit_allowed k j (Sized n) commit allowed = absurd (false≢true commit)
      commit_allowed k j (Landed off n) commit allowed = absurd (false≢true commit)
      commit_allowed k j Stopped commit allowed = absurd (false≢true commit)
      commit_allowed k j Committed commit allowed = allowed.0
      commit_allowed k j Reported commit allowed = absurd (false≢true commit)

  -- a landed byte landed in this step or before
  landed_before : (k j q : ℕ) → has_byte (s.job (suc k) j).entries q ≡ true
      → LandsAt (did_of (s.deed k)) j (plan_at s (suc k) j) ((plan_at s (suc k) j).dst_off + q) ⊎ (has_byte (s.job k j).entries q ≡ true)
  landed_before k j q landed =
      ⊎_elim
      (λ (there : j < s.made k). ⊎_elim
      (λ (same : (s.job (suc k) j).entries ≡ (s.job k j).entries). inr (subst (λ (es : List Entry). has_byte es q ≡ true) same landed))
      (λ (e : Enters spell meaning s k j).
      ⊎_elim
      (λ (old : has_byte (s.job k j).entries q ≡ true). inr old)
      (λ (new : covers q e.entry ≡ true). inl (by_entry e.entry new e.due))
      (below.rises (covers q) (s.job k j).entries e.entry (subst (λ (es : List Entry). has_byte es q ≡ true) e.pushed landed)))
      ((lawful.copies k).entries j there))
      (λ (new : s.made k ≤ j).
      absurd (false≢true (sym (ap (λ (es : List Entry). has_byte es q) ((lawful.copies k).fresh j new).entries) ∙ landed)))
      (cases_lt j (s.made k))
    where
      by_entry : (e : Entry) → covers q e ≡ true → IsDue spell meaning s k j e
          → LandsAt (did_of (s.deed k)) j (plan_at s (suc k) j) ((plan_at s (suc k) j).dst_off + q)
      by_entry (Sized n) covered due = absurd (false≢true covered)
      by_entry (Landed off n) covered due =
          let parts = and_parts (leb off q) (ltb q (off + n)) covered in
          let from = leb-true off q parts.0 in
          let low = ltb-true q (off + n) parts.1 in
          let long = due.2 in
          subst
          (λ (d : Deed). LandsAt (did_of d) j (plan_at s (suc k) j) ((plan_at s (suc k) j).dst_off + q))
          (sym due.1)
          (refl, omega arith, omega arith)
      by_entry Stopped covered due = absurd (false≢true covered)
      by_entry Committed covered due = absurd (false≢true covered)
      by_entry Reported covered due = absurd (false≢true covered)

  step_laws : (k : ℕ) → StepLaws (history s) (progress s) k
  step_laws k =
      record {
        made = (lawful.copies k).made;
        copies = λ j there. copy_laws spell meaning s lawful below k j there;
        fresh = λ j new. (
          λ q. ap (λ (es : List Entry). has_byte es q) ((lawful.copies k).fresh j new).entries,
          ap (λ (es : List Entry). is_committed es) ((lawful.copies k).fresh j new).entries,
        );
        landed = λ j q landed.
            ⊎_elim
            (λ now. inl now)
            (λ never. ⊎_elim (λ now. inl now) (λ before. inr (before, never)) (landed_before k j q landed))
            (lands_now (did_of (s.deed k)) j (plan_at s (suc k) j) ((plan_at s (suc k) j).dst_off + q));
        live = λ j lands.
            let d = landed_deed (s.deed k) j lands in
            let law = (lawful.copies k).lands j d.0 d.1 d.2 in
            (law.there, law.live);
        lands = λ j place lands.
            let d = landed_deed (s.deed k) j (lands_of (did_of (s.deed k)) j (plan_at s (suc k) j) place lands) in
            landing_laws k j d.0 d.1 place d.2 (subst (λ (x : Deed). LandsAt (did_of x) j (plan_at s (suc k) j) place) d.2 lands);
        settles = λ j before now. settling_laws k j before now;
        quiet = λ file place unreached never whole. quiet k file place unreached never whole;
        shown = λ file place x unreached shows. shown k file place x unreached shows;
        crash = λ j crash. lost_all j (crash_deed (plan_at s k) (s.deed k) crash);
        bare = λ file place elsewhere alike. bare k file place elsewhere alike;
      }
    where
      lost_all : (j : ℕ) → IsCrashOf (dest_effect s k) → nat_lt j (s.made (suc k)) && not (s.job (suc k) j).lost ≡ false
      lost_all j crash =
          false_from_ne_true _ (λ intact.
          let parts = and_parts (nat_lt j (s.made (suc k))) (not (s.job (suc k) j).lost) intact in
          both_ways _ (not_from_true (s.job (suc k) j).lost ((lawful.copies k).crash crash j (ltb-true j (s.made (suc k)) parts.0))) parts.1)

  start_laws : StartLaws (history s 0)
  start_laws =
      record {
        none = lawful.copies_start.none_made;
        zeros = λ file place x shows. below.zeros lawful.dest_files lawful.dest_capacity file place x (subst (λ (v : Volume). Shows (seen_dest v) file place x) lawful.dest_start shows);
        alike = λ file place.
            subst (λ (v : Volume). IsAlike (seen_dest (s.dest 0)) (seen_dest v) file place) (sym lawful.bare_start)
            (record { broken = λ whole. whole; now = λ whole. refl; safe = refl; doubt = refl });
      }

  -- a length that is known is the one that was asked for
  abbrev with_len : Plan → ℕ → Copy
  with_len plan len = record { plan = plan; len = len; stopped = false; completed = false; stable = false }

  sized_by : (k j len : ℕ) → may_land (s.job k j) ≡ true → IsSizedBy spell meaning s k j len → HasExtent (history s) j (with_len (plan_at s k j) len)
  sized_by k j len may by =
      let a = was_asked spell meaning s lawful below k j by.answer in
      let early = a.before in
      let plan = plan_stays spell meaning s lawful below j a.step k (omega arith) a.accepted in
      let size = (lawful.tells a.step by.answer.call.ops (spell.results_of by.answer.reply) a.executed).size (plan_at s k j).src_file by.size by.asks by.says in
      record {
        counted = by.counted;
        to_end = λ none. record {
          moment = a.step;
          during = (a.accepted, λ l before. incomplete spell meaning s lawful below j l k (omega arith) may);
          end_is = by.to_end none ∙ size;
        };
      }

  extent_known : (k j len : ℕ) → size_of (s.job k j).entries ≡ Some len → HasExtent (history s) j (with_len (plan_at s k j) len)
  extent_known zero j len size = absurd (let none = ap (λ (es : List Entry). size_of es) (lawful.copies_start.blank j).entries in cc)
  extent_known (suc k) j len size =
      ⊎_elim
      (λ (there : j < s.made k).
      subst (λ (p : Plan). HasExtent (history s) j (with_len p len)) (sym ((lawful.copies k).plan j there)) (⊎_elim
      (λ (same : (s.job (suc k) j).entries ≡ (s.job k j).entries). extent_known k j len (sym (ap (λ (es : List Entry). size_of es) same) ∙ size))
      (λ (e : Enters spell meaning s k j).
      ⊎_elim
      (λ (old : size_of (s.job k j).entries ≡ Some len). extent_known k j len old)
      (λ (new : (size_of (s.job k j).entries ≡ None) × (e.entry ≡ Sized len)).
      let due = subst (IsDue spell meaning s k j) new.1 e.due in
      sized_by k j len due.0 due.1)
      (below.size (s.job k j).entries e.entry len (sym (ap (λ (es : List Entry). size_of es) e.pushed) ∙ size)))
      ((lawful.copies k).entries j there)))
      (λ (new : s.made k ≤ j). absurd (let none = ap (λ (es : List Entry). size_of es) ((lawful.copies k).fresh j new).entries in cc))
      (cases_lt j (s.made k))

  extent : (j k : ℕ) → is_committed (s.job k j).entries ≡ true → HasExtent (history s) j (copy_of (s.job k j))
  extent j k committed =
      let size = committed_size spell meaning s lawful below k j committed in
      let known = extent_known k j size.0 size.1 in
      let len : len_of (s.job k j).entries ≡ size.0 = ap (λ (o : Option ℕ). unwrap_or o 0) size.1 in
      record {
        counted = λ some. len ∙ known.counted some;
        to_end = λ none.
            let end = known.to_end none in
            record { moment = end.moment; during = end.during; end_is = ap (λ n. (plan_at s k j).src_off + n) len ∙ end.end_is };
      }

  pub systems_are_lawful : IsLawfulRun (history s) (progress s)
  systems_are_lawful =
      record {
        start = start_laws;
        moments = moment_laws spell meaning s lawful below;
        steps = step_laws;
        extent = extent;
        same_change = λ i k file place readable readable' same. below.same_change s.source s.effect source_run i k file place same;
      }
