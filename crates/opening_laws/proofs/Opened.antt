-- An end that is opened anew in a step obeys its laws in it.
use Rattle.std.proofs.Common.{◌≡◌, ℕ, suc, ◌<◌, ◌≤◌, true, Option, None, Some, List, [], Contains, sym, ap, subst, inl, inr, ◌∙◌, arith}
use Rattle.std.proofs.lemmas.Bool.{cases_lt, false≢true}
use Rattle.copy_model.specs.Marks.{is_committed, len_of}
use Rattle.nfs_base.specs.declared.seal.End.{End}
use Rattle.nfs_base.specs.declared.seal.End.TheVariants.{Dest}
use Rattle.nfs_base.specs.declared.seal.Seal.{Seal}
use Rattle.wire_model.specs.CallerLaws.{CallerLaws, CallerStart}
use Rattle.wire_model.specs.Copies.{Job, is_safe}
use Rattle.wire_model.specs.CopyLaws.{CopiesLaws, KeepsMarks}
use Rattle.wire_model.specs.Meaning.{Meaning}
use Rattle.wire_model.specs.NameLaws.{NameLaws}
use Rattle.wire_model.specs.ServerLaws.{ServerLaws, ServerStart}
use Rattle.wire_model.specs.Spelling.{Spelling}
use Rattle.wire_model.specs.System.{System}
use Rattle.wire_model.specs.Wire.{Acts, Caller, Sends, Sent, Server}
use Rattle.opening_laws.proofs.Options.{none_is_some}
use Rattle.opening_laws.specs.Anew.{KeepsNames, LosesAll, lost}

-- nothing was sent
none_there : (x : Sent) → Contains [] x → ⊥
none_there x c = absurd (let below = c.1 in omega arith)

pub sends_none : (a : Acts) (bytes : List ℕ) (seal : Option Seal) → a.out ≡ [] → Sends a bytes seal → ⊥
sends_none a bytes seal quiet sends =
    let x : Sent = record { bytes = bytes; seal = seal } in
    none_there x (subst (λ (out : List Sent). Contains out x) quiet sends)

pub server_anew : (spell : Spelling) (owner : End) (v w : Server) (a : Acts) → v.boot < w.boot → ServerStart w → a.out ≡ [] → ServerLaws spell owner v w a
server_anew spell owner v w a later start quiet = record {
  boot = omega (arith, later);
  made = λ same. absurd (omega (arith, later, same));
  root = λ number root there. absurd (none_is_some (w.root number) root (start.no_context number) there);
  init = λ call reply seal by took begun sends is. absurd (sends_none a reply (Some seal) quiet sends);
  create = λ call reply seal child took creates sends is given. absurd (sends_none a reply (Some seal) quiet sends);
  slot = λ call reply seal name took slot sends is. absurd (sends_none a reply (Some seal) quiet sends);
  kept = λ name root results keeps. absurd (none_is_some (w.kept name.session name.slot) _ (start.none_kept name.session name.slot) keeps);
  once = λ name root results executes run. absurd (let same = executes.same_boot in omega (arith, later, same));
  last = λ name same. absurd (omega (arith, later, same));
}

pub caller_anew : (spell : Spelling) (owner own : End) (v w : Caller) (a : Acts) → v.boot < w.boot → CallerStart w → a.out ≡ []
    → CallerLaws spell owner own v w a
caller_anew spell owner own v w a later start quiet = record {
  boot = omega (arith, later);
  calls = λ same. absurd (omega (arith, later, same));
  fresh = λ bytes seal sends is. absurd (sends_none a bytes seal quiet sends);
  one = λ bytes other seal sealed sends again is too same. absurd (sends_none a bytes seal quiet sends);
  directed = λ bytes call seal sends owned reply took. absurd (sends_none a bytes (Some seal) quiet sends);
  simple = λ bytes seal name sends owned slot. absurd (sends_none a bytes (Some seal) quiet sends);
  has = λ context root has. absurd (false≢true (sym (start.no_context context root) ∙ has));
  begin = λ root learns place xid awaits. absurd (none_is_some (w.awaits place) _ (start.none_awaited place) awaits);
  mount = λ root mounted. absurd (none_is_some w.mount root start.no_mount mounted);
  awaits = λ place x awaits. absurd (none_is_some (w.awaits place) _ (start.none_awaited place) awaits);
  goes_on = λ place xid seal call awaits. absurd (none_is_some (w.awaits place) _ (start.none_awaited place) awaits);
  sends = λ bytes seal name sends owned slot. absurd (sends_none a bytes (Some seal) quiet sends);
  in_slot = λ place xid seal call awaits. absurd (none_is_some (w.awaits place) _ (start.none_awaited place) awaits);
}

-- ---- copies

lost_marks : (before now : Job) → now ≡ lost before → KeepsMarks before now
lost_marks before now is = record {
  retired = λ up. ap (λ (x : Job). x.retired) is ∙ up;
  lost = λ up. ap (λ (x : Job). x.lost) is;
  stable = λ up. ap (λ (x : Job). x.stable) is ∙ up;
}

lost_safe : (before now : Job) → now ≡ lost before → (before.stable ≡ true → is_safe before ≡ true) → now.stable ≡ true → is_safe now ≡ true
lost_safe before now is safe up = ap (λ (x : Job). is_committed x.entries) is ∙ safe (sym (ap (λ (x : Job). x.stable) is) ∙ up)

pub all_lost : (spell : Spelling) (meaning : Meaning) (s : System) (k : ℕ) → LosesAll s k → CopiesLaws spell meaning s k
all_lost spell meaning s k all = record {
  made = omega (arith, all.made);
  fresh = all.blank;
  unmade = λ j past. all.unretired j (omega (arith, past, all.made));
  plan = λ j there. ap (λ (x : Job). x.plan) (all.copy j there);
  entries = λ j there. inl (ap (λ (x : Job). x.entries) (all.copy j there));
  lands = λ j off bytes is. let plain = all.crash.deed in absurd (cc);
  marks = λ j there. lost_marks (s.job k j) (s.job (suc k) j) (all.copy j there);
  stable = stays_safe;
  crash = λ crashed j there. ap (λ (x : Job). x.lost) (all.copy j (omega (arith, there, all.made)));
  apart = λ j l later new there may same. absurd (omega (arith, new, there, all.made));
  reach = λ j there.
      let was : j < s.made k = omega (arith, there, all.made) in
      subst (λ (x : Job). len_of x.entries ≤ s.reach j) (sym (all.copy j was)) (all.reach j was);
  holds = λ worker chunk held. absurd (none_is_some (s.holds (suc k) worker) chunk (all.none_held worker) held);
  ready = all.ready;
}
  where
    stays_safe : (j : ℕ) → (s.job (suc k) j).stable ≡ true → is_safe (s.job (suc k) j) ≡ true
    stays_safe j up = elim (cases_lt j (s.made k)) [
      | inl there ↦ lost_safe (s.job k j) (s.job (suc k) j) (all.copy j there) (all.safe j) up
      | inr new ↦ absurd (false≢true (sym ((all.blank j new).stable) ∙ up))
    ]

pub names_kept : (spell : Spelling) (meaning : Meaning) (s : System) (k : ℕ) → KeepsNames s k → (s.acts Dest k).executed ≡ None
    → (s.acts Dest k).out ≡ [] → NameLaws spell meaning s k
names_kept spell meaning s k keeps untold quiet = record {
  stays = keeps.names;
  one = λ j l later new there same. absurd (omega (arith, new, there, keeps.made));
  tells = λ ops results told. absurd (none_is_some (s.acts Dest k).executed _ untold told);
  reports = λ bytes seal name sends owned call says. absurd (sends_none (s.acts Dest k) bytes (Some seal) quiet sends);
}
