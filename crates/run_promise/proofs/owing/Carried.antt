-- What a destination owes in each of its openings it owes in a system that shows these one behind the other, where a stop loses all.
use Rattle.std.proofs.Common.{◌≡◌, ◌⊎◌, inl, inr, ℕ, suc, ◌+◌, ◌<◌, false, [], Option, Some, None, refl, sym, ap, subst, ◌∙◌, arith}
use Rattle.std.specs.Option.{option_map}
use Rattle.copy_model.specs.Effect.{Effect, Writes}
use Rattle.copy_model.specs.Job.{Plan}
use Rattle.copy_model.specs.Volume.{Volume}
use Rattle.nfs_base.specs.declared.seal.End.{End}
use Rattle.nfs_base.specs.declared.seal.End.TheVariants.{Dest, Source}
use Rattle.opening_laws.specs.Anew.{KeepsNames, LosesAll}
use Rattle.opening_laws.specs.Behind.{GoesBehind, ShowsBehind, awaited_behind, caller_behind, chunk_behind, deed_behind}
use Rattle.run_promise.specs.Owing.Owing.{OwesAll}
use Rattle.volume_stops.specs.declared.kept.Kept.{Kept}
use Rattle.wire_model.specs.CallerLaws.{CallerLaws, CallerStart}
use Rattle.wire_model.specs.Copies.{Deed, IsBlank, Job, LandFails, Lands, Plain, effect_of}
use Rattle.wire_model.specs.CopyLaws.{CopiesLaws, CopiesStart, VolumeLaws}
use Rattle.wire_model.specs.Meaning.{Meaning}
use Rattle.wire_model.specs.NameLaws.{NameLaws}
use Rattle.wire_model.specs.Spelling.{Spelling}
use Rattle.wire_model.specs.System.{Chunk, System, dest_effect, plan_at}
use Rattle.wire_model.specs.Told.{TakesSimple}
use Rattle.wire_model.specs.Wire.{Acts, Awaited, Caller}

-- what is known of openings (`opening_laws`)
pub record AreKnown : Type 0 where
  pub callers_anew : (spell : Spelling) (owner own : End) (v w : Caller) (a : Acts) → v.boot < w.boot → CallerStart w → a.out ≡ []
      → CallerLaws spell owner own v w a
  pub copies_lost : (spell : Spelling) (meaning : Meaning) (s : System) (k : ℕ) → LosesAll s k → CopiesLaws spell meaning s k
  pub names_kept : (spell : Spelling) (meaning : Meaning) (s : System) (k : ℕ) → KeepsNames s k → (s.acts Dest k).executed ≡ None
      → (s.acts Dest k).out ≡ [] → NameLaws spell meaning s k
  pub callers_behind : (spell : Spelling) (owner own : End) (base : ℕ) (v w : Caller) (a : Acts) → CallerLaws spell owner own v w a
      → CallerLaws spell owner own (caller_behind base v) (caller_behind base w) a
  pub copies_behind : (spell : Spelling) (meaning : Meaning) (base : ℕ) (own : System) (i : ℕ) (s : System) (k : ℕ) → GoesBehind base own i s k
      → CopiesLaws spell meaning own i → CopiesLaws spell meaning s k
  pub names_behind : (spell : Spelling) (meaning : Meaning) (base : ℕ) (own : System) (i : ℕ) (s : System) (k : ℕ) → GoesBehind base own i s k
      → NameLaws spell meaning own i → NameLaws spell meaning s k

-- ---- a caller that was just opened

start_behind : (base : ℕ) (v : Caller) → CallerStart v → CallerStart (caller_behind base v)
start_behind base v start = record {
  no_context = start.no_context;
  no_mount = start.no_mount;
  none_awaited = λ place. ap (λ (o : Option Awaited). option_map (awaited_behind base) o) (start.none_awaited place);
}

-- where an opening is at its first moment
pub start_shown : (base : ℕ) (own : System) (i : ℕ) (s : System) (k : ℕ) → ShowsBehind base own i s k → i ≡ 0 → CallerStart (own.caller Source Dest 0)
    → CallerStart (s.caller Source Dest k)
start_shown base own i s k shows is start =
    subst (λ (v : Caller). CallerStart v) (sym shows.caller)
    (subst (λ (n : ℕ). CallerStart (caller_behind base (own.caller Source Dest n))) (sym is) (start_behind base (own.caller Source Dest 0) start))

-- at the first moment of all there is no copy
pub copies_start : (own : System) (s : System) → ShowsBehind 0 own 0 s 0 → CopiesStart own → CopiesStart s
copies_start own s shows start =
    let same : (j : ℕ) → own.job 0 j ≡ s.job 0 j = λ j. sym (shows.job j) ∙ ap (λ (n : ℕ). s.job 0 n) (omega arith) in
    record {
      none_made = let made = shows.made in let none = start.none_made in omega (arith, made, none);
      blank = λ j. subst (λ (x : Job). IsBlank x) (same j) (start.blank j);
      none_retired = λ j. subst (λ (x : Job). x.retired ≡ false) (same j) (start.none_retired j);
      none_held = λ worker. shows.holds worker ∙ ap (λ (o : Option Chunk). option_map (chunk_behind 0) o) (start.none_held worker);
    }

module _ (spell : Spelling) (meaning : Meaning) (s : System) where
  -- in a step an opening goes on, behind those before
  pub record Behind (k : ℕ) : Type 0 where
    pub base : ℕ
    pub own : System
    pub turn : ℕ
    pub goes : GoesBehind base own turn s k
    pub dest_now : s.dest k ≡ own.dest turn
    pub dest_then : s.dest (suc k) ≡ own.dest (suc turn)
    pub owes : OwesAll spell meaning own

  -- or the destination stops
  pub record Stops (k : ℕ) : Type 0 where
    pub loses : LosesAll s k
    pub names : KeepsNames s k
    pub untold : (s.acts Dest k).executed ≡ None
    pub unsent : (s.acts Dest k).out ≡ []
    pub rises : (s.caller Source Dest k).boot < (s.caller Source Dest (suc k)).boot
    pub begins : CallerStart (s.caller Source Dest (suc k))
    pub crashes : TakesSimple spell Dest (s.acts Dest k) → VolumeLaws (s.dest k) (s.dest (suc k)) (dest_effect s k)

  pub either_by : (k : ℕ) (o cut : Option Kept) → cut ≡ o → (cut ≡ None → Behind k) → ((kept : Kept) → cut ≡ Some kept → Stops k) → Behind k ⊎ Stops k
  either_by k None cut is behind stops = inl (behind is)
  either_by k (Some kept) cut is behind stops = inr (stops kept is)

  module _ (known : AreKnown) where
    abbrev Calls : Caller → Caller → Acts → Type 0
    Calls v w a = CallerLaws spell Source Dest v w a

    calls_by : (k : ℕ) → Behind k ⊎ Stops k → CallerLaws spell Source Dest (s.caller Source Dest k) (s.caller Source Dest (suc k)) (s.acts Dest k)
    calls_by k (inl b) =
        let v = b.own.caller Source Dest b.turn in
        let w = b.own.caller Source Dest (suc b.turn) in
        subst (λ (x : Caller). Calls x (s.caller Source Dest (suc k)) (s.acts Dest k)) (sym b.goes.before.caller)
        (subst (λ (x : Caller). Calls (caller_behind b.base v) x (s.acts Dest k)) (sym b.goes.after.caller)
        (subst (λ (a : Acts). Calls (caller_behind b.base v) (caller_behind b.base w) a) (sym b.goes.acts)
        (known.callers_behind spell Source Dest b.base v w (b.own.acts Dest b.turn) (b.owes.calls.laws b.turn))))
    calls_by k (inr t) =
        known.callers_anew spell Source Dest (s.caller Source Dest k) (s.caller Source Dest (suc k)) (s.acts Dest k) t.rises t.begins t.unsent

    -- ---- the volume

    same_effect : (k : ℕ) (b : Behind k) (deed : Deed) → effect_of (plan_at s k) (deed_behind b.base deed) ≡ effect_of (plan_at b.own b.turn) deed
    same_effect k b (Plain effect) = refl
    same_effect k b (Lands copy off bytes) =
        ap (λ (p : Plan). Writes p.dst_file (p.dst_off + off) bytes) (ap (λ (x : Job). x.plan) (b.goes.before.job copy))
    same_effect k b LandFails = refl

    effect_is : (k : ℕ) (b : Behind k) → dest_effect s k ≡ dest_effect b.own b.turn
    effect_is k b = ap (λ (d : Deed). effect_of (plan_at s k) d) b.goes.deed ∙ same_effect k b (b.own.deed b.turn)

    volume_by : (k : ℕ) → Behind k ⊎ Stops k → TakesSimple spell Dest (s.acts Dest k) → VolumeLaws (s.dest k) (s.dest (suc k)) (dest_effect s k)
    volume_by k (inl b) simple =
        subst (λ (v : Volume). VolumeLaws v (s.dest (suc k)) (dest_effect s k)) (sym b.dest_now)
        (subst (λ (v : Volume). VolumeLaws (b.own.dest b.turn) v (dest_effect s k)) (sym b.dest_then)
        (subst (λ (e : Effect). VolumeLaws (b.own.dest b.turn) (b.own.dest (suc b.turn)) e) (sym (effect_is k b))
        (b.owes.volume b.turn (subst (λ (a : Acts). TakesSimple spell Dest a) b.goes.acts simple))))
    volume_by k (inr t) simple = t.crashes simple

    -- ---- copies and names

    copies_by : (k : ℕ) → Behind k ⊎ Stops k → CopiesLaws spell meaning s k
    copies_by k (inl b) = known.copies_behind spell meaning b.base b.own b.turn s k b.goes (b.owes.copies b.turn)
    copies_by k (inr t) = known.copies_lost spell meaning s k t.loses

    names_by : (k : ℕ) → Behind k ⊎ Stops k → NameLaws spell meaning s k
    names_by k (inl b) = known.names_behind spell meaning b.base b.own b.turn s k b.goes (b.owes.names b.turn)
    names_by k (inr t) = known.names_kept spell meaning s k t.names t.untold t.unsent

    pub owes_all : CallerStart (s.caller Source Dest 0) → CopiesStart s → ((k : ℕ) → Behind k ⊎ Stops k) → OwesAll spell meaning s
    owes_all calls_start start each = record {
      calls = record { start = calls_start; laws = λ k. calls_by k (each k) };
      volume = λ k. volume_by k (each k);
      start = start;
      copies = λ k. copies_by k (each k);
      names = λ k. names_by k (each k);
    }
