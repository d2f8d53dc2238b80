-- Facts on instances of actions, of the timestamps that the program reads.
use Rattle.std.proofs.Common.{◌≡◌, refl, ℕ, List, Option, Some, None}
use Rattle.sq_term.specs.declared.term.Idx.{Idx}
use Rattle.sq_term.specs.Syntax.{TsTree, free, bound, init, pred, action, TermTree}
use Rattle.sq_rules_trace.specs.Instances.{InstanceTree, instance_of}
use Rattle.sq_rules_trace.specs.Time.{of_instance, of_instances}

pub instance-some : (f : ℕ → List Idx → TermTree) (o : Option TsTree) (i : InstanceTree)
    → Some i ≡ instance_of o → of_instance f o ≡ Some (f i.action i.indices)
unfolding instance_of of_instance
instance-some f (Some (action a is)) i e = cc
instance-some f _ i e = absurd (cc)

pub instance-none : (f : ℕ → List Idx → TermTree) (o : Option TsTree) → None ≡ instance_of o
    → of_instance f o ≡ None
unfolding instance_of of_instance
instance-none f (Some (action a is)) e = absurd (cc)
instance-none f _ e = refl

module _ (f : ℕ → List Idx → ℕ → List Idx → Option TermTree) where
  pub instances-some : (o q : Option TsTree) (i j : InstanceTree) → Some i ≡ instance_of o
      → Some j ≡ instance_of q → of_instances f o q ≡ f i.action i.indices j.action j.indices
  unfolding instance_of of_instances
  instances-some (Some (action a is)) (Some (action b js)) i j e g = cc
  instances-some (Some (action a is)) _ i j e g = absurd (cc)
  instances-some _ q i j e g = absurd (cc)

  pub instances-first : (o q : Option TsTree) → None ≡ instance_of o → of_instances f o q ≡ None
  unfolding instance_of of_instances
  instances-first (Some (action a is)) q e = absurd (cc)
  instances-first _ q e = refl

  pub instances-second : (o q : Option TsTree) → None ≡ instance_of q → of_instances f o q ≡ None
  unfolding instance_of of_instances
  instances-second (Some (action a is)) (Some (action b js)) e = absurd (cc)
  instances-second (Some (action a is)) _ e = refl
  instances-second _ q e = refl

pub ruleset instance_rules =
    (instance-some, instance-none, instances-some, instances-first, instances-second)
