-- What the builder holds after a program's events.
use Rattle.std.proofs.Common.{◌≡◌, ℕ, ◌+◌, ◌<◌, ◌≤◌, min, Bool, true, false, ltb, List, [], ◌∷◌, reverse, length, None, Option, sym, refl, ap, ◌∙◌, subst, arith}
use Rattle.std.proofs.lemmas.List.{length-reverse}
use Rattle.std.proofs.lemmas.Bool.{both_ways}
use Rattle.std.proofs.lemmas.Bool.Decides.{nat_tests}
use Rattle.grammar.specs.declared.event.Event.{Event}
use Rattle.grammar.specs.Events.{events, fed}
use Rattle.grammar.specs.Trees.{Program}
use Rattle.outline.specs.declared.builder.Builder.{Builder}
use Rattle.outline.specs.declared.limit.Limit.{Limit}
use Rattle.outline.specs.declared.limit.Limit.TheVariants as limit
use Rattle.outline.specs.Building.{built}
use Rattle.outline.specs.Built.{Empty, limit_of}
use Rattle.outline.specs.Contents.{contents}
use Rattle.outline.specs.Drafts.{Draft, draft, taken}
use Rattle.outline.specs.Layout.{nothing, laid, next, contents_of}
use Rattle.outline.specs.Limits.{height, crowd, passed, limit_passed}
use Rattle.outline.proofs.Heights.{cap}
use Rattle.outline.proofs.Laying.{program_laid}
use Rattle.outline.proofs.Tracking.{Tracks, tracks_event}

tracks_events : (es : List Event) (b : Builder) (d : Draft) → Tracks b d → Tracks (fed built b es) (fed taken d es)
tracks_events [] b d t = t
tracks_events (e ∷ es) b d t =
    tracks_events es (built b e) (taken d e) (tracks_event {l = d.layout} {o = d.opened} {c = d.count} {k = d.tallest} {v = d.locals} {w = d.most} e t)

pub tracks_empty : (b : Builder) → Empty b → Tracks b (draft nothing [] 0 0 0 0)
tracks_empty b e =
    record {
      counts =
          record {
            classes = ap (λ t. t.classes) e.tally;
            relationships = ap (λ t. t.relationships) e.tally;
            fields = ap (λ t. t.fields) e.tally;
            methods = ap (λ t. t.methods) e.tally;
            nodes = ap (λ t. t.nodes) e.tally;
            locals = ap (λ t. t.locals) e.tally;
            most = ap (λ t. t.most) e.tally;
            in_method = ap (λ t. t.in_method) e.tally;
          };
      fine = record { opened = omega arith; variables = λ h. omega arith; newest = λ h f. absurd (both_ways false refl f); locals = λ f. omega arith };
      same =
          λ m. record {
            tables =
                record {
                  classes = record { is = e.classes };
                  relationships = record { is = e.relationships };
                  fields = record { is = e.fields };
                  methods = record { is = e.methods };
                  variables = record { is = e.variables };
                  nodes = record { is = e.nodes };
                  blocks = record { is = e.blocks };
                };
            opened = record { is = e.opened };
            owner = ap (λ t. t.owner) e.tally;
            tallest = ap (λ t. t.tallest) e.tally;
          };
    }

-- the tables of a program, with the counts of its layout
pub record Built (t : Program) (b : Builder) : Type 0 where
  pub locals : ℕ
  pub tracks : Tracks b (draft (laid 0 t nothing) [] (next (laid 0 t nothing) + 0) (cap (height 0 t)) locals (crowd 0 t))

pub builds : (t : Program) (b c : Builder) → Empty b → c ≡ fed built b (events 0 t) → Built t c
builds t b c e p =
    let g = program_laid t 0 0 nothing 0 0 0 in
    let D : Draft → Type 0 = λ d. Tracks c d in
    let C : Builder → Type 0 = λ x. Tracks x (fed taken (draft nothing [] 0 0 0 0) (events 0 t)) in
    record {
      locals = g.locals;
      tracks = subst D g.leads.is (subst C (sym p) (tracks_events (events 0 t) b (draft nothing [] 0 0 0 0) (tracks_empty b e)));
    }

capped : (limit most m n : ℕ) → limit < most → m ≡ min n most → ltb limit m ≡ ltb limit n
capped limit most m n h e = grind (arith, nat_tests)

chain : (a b : Bool) (n : Limit) (x y : Option Limit) → a ≡ b → (b ≡ false → x ≡ y) → passed a n x ≡ passed b n y
chain true true n x y e f = refl
chain true false n x y e f = absurd (both_ways false refl (sym e))
chain false true n x y e f = absurd (both_ways false refl e)
chain false false n x y e f = f refl

in_limit : (limit n : ℕ) → ltb limit n ≡ false → n ≤ limit
in_limit limit n e = grind (arith, nat_tests)

test : (limit most m : ℕ) {X : Type 0} (xs : List X) → limit < most → m ≡ min (length xs) most → ltb limit m ≡ ltb limit (length (reverse xs))
test limit most m xs h e = capped limit most m (length xs) h e ∙ ap (ltb limit) (sym (length-reverse xs))

listed_in : (limit : ℕ) {X : Type 0} (xs : List X) → ltb limit (length (reverse xs)) ≡ false → length xs ≤ limit
listed_in limit xs e = let n = length-reverse xs in let h = in_limit limit (length (reverse xs)) e in omega arith

-- the builder passes the limits that the program passes
pub same_limits : (t : Program) (b : Builder) → Built t b → limit_of b.tally ≡ limit_passed t
unfolding limit_passed contents_of
same_limits t b g =
    let l = laid 0 t nothing in
    let c = g.tracks.counts in
    chain _ _ limit.Classes _ _ (test 31 255 b.tally.classes l.classes (omega arith) c.classes) (λ h1.
    chain _ _ limit.Relationships _ _ (test 31 255 b.tally.relationships l.relationships (omega arith) c.relationships) (λ h2.
    chain _ _ limit.Fields _ _ (test 128 255 b.tally.fields l.fields (omega arith) c.fields) (λ h3.
    chain _ _ limit.Methods _ _ (test 64 255 b.tally.methods l.methods (omega arith) c.methods) (λ h4.
    chain _ _ limit.Variables _ _ (capped 12 255 b.tally.most (crowd 0 t) (omega arith) c.most) (λ h5.
    chain _ _ limit.Nodes _ _ (test 2048 65535 b.tally.nodes l.nodes (omega arith) (c.nodes ∙ plain (length l.nodes))) (λ h6.
    let n = listed_in 2048 l.nodes h6 in
    let s = g.tracks.same (record { classes = listed_in 31 l.classes h1; relationships = listed_in 31 l.relationships h2; fields = listed_in 128 l.fields h3; methods = listed_in 64 l.methods h4; nodes = n; count = omega arith; most = in_limit 12 (crowd 0 t) h5 }) in
    ap (λ y. passed y limit.Height None) (capped 16 255 b.tally.tallest (height 0 t) (omega arith) s.tallest)))))))
  where
    plain : (n : ℕ) → min (n + 0) 65535 ≡ min n 65535
    plain n = omega arith

no_limit : (a : Bool) (n : Limit) (x : Option Limit) → passed a n x ≡ None → (a ≡ false) × (x ≡ None)
no_limit true n x e = let z : ◌≡◌ {A = ℕ} 0 1 = cc in absurd (omega arith)
no_limit false n x e = (refl, e)

-- where no limit is passed, the tables are the program's
pub same_tables : (t : Program) (b : Builder) → Built t b → limit_passed t ≡ None → contents b.outline ≡ contents_of t
unfolding limit_passed contents_of
same_tables t b g e =
    let l = laid 0 t nothing in
    let h1 = no_limit _ limit.Classes _ e in
    let h2 = no_limit _ limit.Relationships _ h1.1 in
    let h3 = no_limit _ limit.Fields _ h2.1 in
    let h4 = no_limit _ limit.Methods _ h3.1 in
    let h5 = no_limit _ limit.Variables _ h4.1 in
    let h6 = no_limit _ limit.Nodes _ h5.1 in
    let n = listed_in 2048 l.nodes h6.0 in
    let s = g.tracks.same (record { classes = listed_in 31 l.classes h1.0; relationships = listed_in 31 l.relationships h2.0; fields = listed_in 128 l.fields h3.0; methods = listed_in 64 l.methods h4.0; nodes = n; count = omega arith; most = in_limit 12 (crowd 0 t) h5.0 }) in
    λ i. record {
      classes = s.tables.classes.is i;
      relationships = s.tables.relationships.is i;
      fields = s.tables.fields.is i;
      methods = s.tables.methods.is i;
      variables = s.tables.variables.is i;
      nodes = s.tables.nodes.is i;
      blocks = s.tables.blocks.is i;
    }
