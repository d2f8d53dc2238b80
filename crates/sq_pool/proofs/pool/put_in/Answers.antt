use Rattle.sq_pool.proofs.Nodes.{put_is}
use Rattle.sq_pool.proofs.pool.put_in.Goals as goal

pub returns-clause-ok : goal.returns-clause-ok
returns-clause-ok c =
    let stored = c.in_ok-at.ensures.stored in
    let put = put_is c.args.nodes.now.keys c.args.node c.requires.pool c.requires.over
    (record { at = c.in_ok-at.at }) stored.0 stored.2
    c.insert_full.new.self.keys c.in_ok-at.ensures.keys stored.1 in
    put.puts

pub returns-clause-pool : goal.returns-clause-pool
returns-clause-pool c =
    let stored = c.in_ok-at.ensures.stored in
    let put = put_is c.args.nodes.now.keys c.args.node c.requires.pool c.requires.over
    (record { at = c.in_ok-at.at }) stored.0 stored.2
    c.insert_full.new.self.keys c.in_ok-at.ensures.keys stored.1 in
    put.pool
