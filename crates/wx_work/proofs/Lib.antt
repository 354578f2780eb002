mod LaterLemmas
